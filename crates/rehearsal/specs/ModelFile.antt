-- A small model and its file, byte by byte, both ways, by computation: which fields come in which order, and which byte of each comes first. Assumes nothing.
use Rattle.std.specs.Prelude.{ℕ, ◌≡◌, refl, List, [], ◌∷◌}
use Rattle.std.specs.Float.{nan, binary64}
use Rattle.std.specs.Float.Ieee.{is_nan, of_bits, to_bits}
use Rattle.rules.specs.Words.{joined}
use Rattle.rules.specs.Lent.{Entry, leaf_entry}
use Rattle.rules.specs.Checks.{within}
use Rattle.rules.specs.Bytes.{bytes_of, number_in, float_bytes, good_pattern}
use Rattle.rules.specs.Model.{node_bytes, tree_bytes, file_of, says, and_then, field, float_at, header_in, child_good, split_at, node_at, before, nodes_at, count_good, trees_at, model_in}

-- two trees over 258 features: a split at 1.5 of feature 257 with its two leaves, of which one is NaN, and a leaf of minus infinity
abbrev trees : List (List Entry)
trees =
    (record {
      value = of_bits binary64 0x4008_0000_0000_0000;
      feature = 257;
      threshold = of_bits binary64 0x3ff8_0000_0000_0000;
      score = of_bits binary64 0x3fd0_0000_0000_0000;
      true_child = 1;
      false_child = 2;
    }
    ∷ leaf_entry (of_bits binary64 0x3fb9_9999_9999_999a) ∷ leaf_entry nan ∷ [])
    ∷ (leaf_entry (of_bits binary64 0xfff0_0000_0000_0000) ∷ [])
    ∷ []

abbrev file : List ℕ
file =
    -- R, G and F; version 1; 258 features; two trees
    0x52 ∷ 0x47 ∷ 0x46 ∷ 0x01 ∷ 0x00 ∷ 0x02 ∷ 0x01 ∷ 0x02 ∷ 0x00
    -- the first has three nodes
    ∷ 0x03 ∷ 0x00 ∷ 0x00 ∷ 0x00
    -- value 3.0, true child 1, feature 257, threshold 1.5, score 0.25
    ∷ 0x00 ∷ 0x00 ∷ 0x00 ∷ 0x00 ∷ 0x00 ∷ 0x00 ∷ 0x08 ∷ 0x40
    ∷ 0x01 ∷ 0x00 ∷ 0x00 ∷ 0x00
    ∷ 0x01 ∷ 0x01
    ∷ 0x00 ∷ 0x00 ∷ 0x00 ∷ 0x00 ∷ 0x00 ∷ 0x00 ∷ 0xf8 ∷ 0x3f
    ∷ 0x00 ∷ 0x00 ∷ 0x00 ∷ 0x00 ∷ 0x00 ∷ 0x00 ∷ 0xd0 ∷ 0x3f
    -- value 0.1, no child
    ∷ 0x9a ∷ 0x99 ∷ 0x99 ∷ 0x99 ∷ 0x99 ∷ 0x99 ∷ 0xb9 ∷ 0x3f
    ∷ 0x00 ∷ 0x00 ∷ 0x00 ∷ 0x00
    -- NaN, no child
    ∷ 0x00 ∷ 0x00 ∷ 0x00 ∷ 0x00 ∷ 0x00 ∷ 0x00 ∷ 0xf8 ∷ 0x7f
    ∷ 0x00 ∷ 0x00 ∷ 0x00 ∷ 0x00
    -- the second has one: minus infinity, no child
    ∷ 0x01 ∷ 0x00 ∷ 0x00 ∷ 0x00
    ∷ 0x00 ∷ 0x00 ∷ 0x00 ∷ 0x00 ∷ 0x00 ∷ 0x00 ∷ 0xf0 ∷ 0xff
    ∷ 0x00 ∷ 0x00 ∷ 0x00 ∷ 0x00
    ∷ []

pub written : file_of 258 trees ≡ file
unfolding file_of tree_bytes node_bytes float_bytes bytes_of joined is_nan of_bits to_bits
written = refl

pub read : model_in file ≡ says (record { features = 258; trees = trees }) 83
unfolding model_in header_in trees_at nodes_at node_at split_at before float_at field and_then child_good count_good good_pattern number_in within is_nan of_bits
read = refl
