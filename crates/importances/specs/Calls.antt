-- The two calls: what passed checks say of a forest, and what its importances come to. Assumes nothing.
use Rattle.std.specs.Prelude.{ℕ, ◌≡◌, true, List, Float}
use Rattle.std.proofs.Common.{◌∙◌}
use Rattle.std.proofs.Math.Path.{ap}
use Rattle.std.proofs.Math.ListN.{length, replicate}
use Rattle.std.proofs.lemmas.List.{length-map}
use Rattle.rules.specs.Words.{nought, every, filled}
use Rattle.rules.specs.Table.{good_tree, ForestTable, starts_good, trees_of, good_forest}
use Rattle.rules.specs.Reading.{add_importances}
use Rattle.lemmas.specs.Tests.{and_both}
use Rattle.scores.specs.Lists.{filled_is}
use Rattle.tables.specs.Table.{Started, TreesLie}

pub forest_lies : (features : ℕ) (F : ForestTable) → Started F.trees F.starts → good_forest features F ≡ true → TreesLie features F
unfolding good_forest
forest_lies features F s h =
    let (x, y) = and_both (starts_good F) (every (good_tree features) (trees_of F)) h in
    record { lying = record { started = s; good = x }; good = y }

pub from_noughts : (features : ℕ) (F : ForestTable) (out u : List Float) → length out ≡ features → u ≡ filled nought out
    → add_importances (length u) u (trees_of F) ≡ add_importances features (replicate features nought) (trees_of F)
from_noughts features F out u l e = λ i. add_importances (wide i) (blank i) (trees_of F)
  where
    blank : u ≡ replicate features nought
    blank = e ∙ filled_is nought out ∙ ap (λ k. replicate k nought) l

    wide : length u ≡ features
    wide = ap length e ∙ length-map out (λ _. nought) ∙ l
