-- `criterion::tried_of` meets its contract: what the caller said, or else what the closure returned. Assumes nothing.
use Rattle.std.proofs.Common.{rules, ◌≡◌, ℕ, Option, None, Some, MatchOption}
use Rattle.rules.specs.Forest.{tried_of}
use Rattle.criterion.proofs.tried_of.Goals as goal

told : (n : ℕ) (o : Option ℕ) (r : ℕ) (P : Type 0) → MatchOption o P (λ x. r ≡ x) → (P → r ≡ tried_of n None) → r ≡ tried_of n o
unfolding tried_of
told n None r P h e = e h
told n (Some m) r P h e = h

pub returns : goal.returns
returns c = told _ c.args.tried _ _ c.unwrap_or_else.ensures (λ k. search rules)
