-- A list whose first entries pass a test, and the others do not: what is kept of it, and that partitioning it changes nothing. Assumes nothing.
use Rattle.std.specs.Prelude.{ℕ, ◌≡◌, Bool, not, List, ◌++◌, length, take, drop}
use Rattle.std.proofs.Common.{arith, sym, ap, ◌∙◌, append-nil, take-append-drop, length-take}
use Rattle.rules.specs.Words.{keep}
use Rattle.lemmas.specs.Lists.{every-imp, keep_all, keep-none}
use Rattle.sweeps.specs.Swept.{fails, parted}
use Rattle.partition.specs.Stays.{passed-kept, passed-left}
use Rattle.work_columns.specs.Columns.{Cleft}

module _ (p : ℕ → Bool) (l : List ℕ) (n : ℕ) (c : Cleft p l n) where
  pub front-keeps : keep p l ≡ take n l
  front-keeps = passed-kept p l n c.passed ∙ ap (λ k. take n l ++ k) (keep-none p (drop n l) c.others) ∙ append-nil (take n l)

  pub rest-keeps : keep (fails p) l ≡ drop n l
  rest-keeps = passed-left p l n c.passed ∙ keep_all (fails p) (drop n l) (every-imp _ _ (λ k e. ap not e) (drop n l) c.others)

  pub cleft-parted : parted p l ≡ l
  cleft-parted = (λ i. front-keeps i ++ rest-keeps i) ∙ take-append-drop n l

  pub cleft-count : n ≡ length (keep p l)
  cleft-count = sym (ap length front-keeps ∙ (length-take n l ∙ omega (arith, c.within)))
