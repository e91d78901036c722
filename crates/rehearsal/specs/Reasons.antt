-- Why each node of the trees P1 to P9 is a leaf, or that it is none: the reasons of crate demands, computed from what each fit leaves. One list and one theorem; beside the table's own,
-- three trees of the random splitter, where the cut that is offered or not is the one drawn. Assumes nothing.
use Rattle.std.specs.Prelude.{ℕ, ◌≡◌, refl, List, [], ◌∷◌, map, replicate, Float, Ok, Err, Some, None}
use Rattle.std.specs.Float.Ieee.{lt, le, eq, of_bits}
use Rattle.rules.specs.declared.Splitter.TheVariants.{Random}
use Rattle.rules.specs.declared.Height.TheVariants.{Midpoint}
use Rattle.rules.specs.Results.{TreeAnswer}
use Rattle.rules.specs.Words.{from, put_if, keep, total}
use Rattle.rules.specs.Lent.{WaitingRoom, TreeRooms, Outcome, values_at, cell, listing_at, unweighted, count_in, kept_in, kept, entries_at}
use Rattle.rules.specs.Fit.{listing, limit_of, params_of, TreeCall, one_tree_of}
use Rattle.rules.specs.Table.{is_leaf}
use Rattle.rules.specs.Reading.{onto}
use Rattle.lemmas.specs.Offers.{cuts_from, cuts_along, cuts_at, last_of, spread, offered, draws_of}
use Rattle.lemmas.specs.Passes.{comes, passes, sends_to, sender_from, level_up, level_in}
use Rattle.demands.specs.TreesLeft.{tree_left}
use Rattle.demands.specs.Reasons.{Reason, nothing_kept, at_the_limit, below_least_split, no_cut_offered, cut_offered, reason_at}
use Rattle.rehearsal.specs.TableCalls.{given, rise, flats, ones, sorted, plain, sampled, tree, half, lent, fits, Seen, fitted, read, bagged, run}
use Rattle.rules.specs.declared.FitError.{FitError}

-- the reasons of all nodes that a fit leaves, in the order of their numbers
unfoldable pub reasons_in : TreeCall → Outcome TreeAnswer (TreeRooms WaitingRoom) → List Reason
unfolding from put_if keep total values_at cell listing_at unweighted count_in kept_in kept entries_at listing limit_of params_of one_tree_of is_leaf onto
    cuts_from cuts_along cuts_at last_of spread offered draws_of comes passes sends_to sender_from level_up level_in reason_at lt le eq of_bits
reasons_in C o = reported o.answer
  where
    reported : TreeAnswer → List Reason
    reported (Ok r) = map (reason_at (one_tree_of C) C.given.inputs (tree_left o.rooms r)) (from 0 r.nodes)
    reported (Err (FitError.Refused r)) = []
    reported (Err (FitError.BadDraw d)) = []

unfoldable pub reasons_of : TreeCall → Seen → List Reason
reasons_of C (fitted o) = reasons_in C o
reasons_of C (read o) = []
reasons_of C (bagged f m e) = []

-- P1's with the least leaf given, and thresholds drawn at random
abbrev drawn_tree : ℕ → List Float → TreeCall
drawn_tree leaf thresholds =
    let C : TreeCall = tree None leaf 2 plain in
    record {
      shape = C.shape;
      settings = record { depth = None; leaf = leaf; split = 2; splitter = Random; height = Midpoint };
      tried = C.tried;
      given = C.given;
      words = C.words;
      thresholds = thresholds;
    }

pub record Nodes : Type 0 where
  pub call : TreeCall
  pub reasons : List Reason

abbrev nodes : TreeCall → List Reason → Nodes
nodes C rs = record { call = C; reasons = rs }

unfoldable pub cases : List Nodes
cases =
    -- P1: two rows are parted, one is below the least split
    nodes (tree None 1 2 plain) (cut_offered ∷ cut_offered ∷ cut_offered ∷ replicate 4 below_least_split)
    -- P2
    ∷ nodes (tree (Some 2) 1 2 plain) (cut_offered ∷ at_the_limit ∷ at_the_limit ∷ [])
    -- P3
    ∷ nodes (tree (Some 1) 1 2 plain) (at_the_limit ∷ [])
    ∷ nodes (tree (Some 0) 1 2 plain) (at_the_limit ∷ [])
    -- P4: two rows reach the least split, but every cut of them leaves one
    ∷ nodes (tree None 2 2 plain) (cut_offered ∷ no_cut_offered ∷ no_cut_offered ∷ [])
    -- P5
    ∷ nodes (tree None 3 2 plain) (no_cut_offered ∷ [])
    -- P6
    ∷ nodes (tree None 1 5 plain) (below_least_split ∷ [])
    -- P7: all values are equal
    ∷ nodes (tree None 1 2 (given (7 ∷ 7 ∷ 7 ∷ 7 ∷ []) flats ones sorted)) (no_cut_offered ∷ [])
    -- P8: the first row counts twice, so its leaf is searched, and has but one value
    ∷ nodes (tree None 1 2 (sampled flats)) (cut_offered ∷ no_cut_offered ∷ cut_offered ∷ below_least_split ∷ below_least_split ∷ [])
    -- P9
    ∷ nodes (tree None 1 2 (given rise flats (0 ∷ 0 ∷ 0 ∷ 0 ∷ []) sorted)) (nothing_kept ∷ [])
    -- at random: each search cuts at the threshold drawn for it; with a least leaf of 2, 1.5 leaves one row, though 2.5 would leave two; then 2.5, and in both children what is drawn leaves one
    ∷ nodes (drawn_tree 1 (half 5 ∷ half 3 ∷ half 7 ∷ [])) (cut_offered ∷ cut_offered ∷ cut_offered ∷ replicate 4 below_least_split)
    ∷ nodes (drawn_tree 2 (half 3 ∷ [])) (no_cut_offered ∷ [])
    ∷ nodes (drawn_tree 2 (half 5 ∷ half 3 ∷ half 7 ∷ [])) (cut_offered ∷ no_cut_offered ∷ no_cut_offered ∷ [])
    ∷ []

pub reasons-told : map (λ (c : Nodes). reasons_of c.call (run (fits c.call (lent 7)))) cases ≡ map (λ (c : Nodes). c.reasons) cases
unfolding cases reasons_of reasons_in run
reasons-told = refl
