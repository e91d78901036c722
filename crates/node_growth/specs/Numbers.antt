-- The numbers of the nodes that join the waiting list. Assumes nothing.
use Rattle.std.specs.Prelude.{ℕ, suc, ◌+◌, ◌<◌, Bool, length}
use Rattle.std.proofs.Common.{arith}
use Rattle.rules.specs.declared.Params.{Params}
use Rattle.rules.specs.Draws.{Out}
use Rattle.rules.specs.Search.{NodeRows, Found, no_cut, cut_found, on_true, on_false}
use Rattle.rules.specs.Growth.{Waiting, State, child, joins, search_if, expand}
use Rattle.lemmas.specs.Lists.{Every}
use Rattle.lemmas.specs.Outs.{Then, always}
use Rattle.lemmas.specs.WaitingOrder.{search_if-joins, expand-joins}

joins-number : (n level top : ℕ) (node : NodeRows) (f : Found) → n < top → Every (λ v. v.number < top) (joins n level node f)
unfolding joins
joins-number n level top node no_cut h = tt
joins-number n level top node (cut_found c) h = (h, tt)

module _ (P : Params) {S : Type 0} (choose : S → NodeRows → Out (Found × S)) where
  pub search_if-number : (b : Bool) (n level top : ℕ) (node : NodeRows) (s : S) → n < top → Then (search_if P choose b n level node s) (λ r. Every (λ v. v.number < top) r.0)
  search_if-number b n level top node s h = search_if-joins P choose _ b n level node s (λ t. always (choose s node) _ (λ r. joins-number n level top node r.0 h))

  -- the children's numbers are the two that come next
  pub expand-number : (w : Waiting) (s : State S) → Then (expand P choose w s) (λ r. Every (λ v. v.number < length s.nodes + 2) r.0)
  expand-number w s =
      expand-joins P choose _ w s
      (λ t h. always (choose t (child on_true w)) _ (λ r. joins-number (length s.nodes) (suc w.level) (length s.nodes + 2) (child on_true w) r.0 (omega arith)))
      (λ t h. always (choose t (child on_false w)) _ (λ r. joins-number (suc (length s.nodes)) (suc w.level) (length s.nodes + 2) (child on_false w) r.0 (omega arith)))
