-- A node that is not there. Assumes nothing.
use Rattle.std.specs.Prelude.{ℕ, false}
use Rattle.rules.specs.Words.{nought}
use Rattle.rules.specs.Lent.{leaf_entry}
use Rattle.rules.specs.Answers.{NodeTold}

-- with the number of a refusal, or 0
abbrev pub no_node : ℕ → NodeTold
no_node n = record { number = n; there = false; entry = leaf_entry nought }
