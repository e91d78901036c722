-- `partition::part_behind` meets its contract: the rows at the front stay, and what is behind them is parted. Assumes nothing.
use Rattle.std.proofs.Common.{arith, ◌≡◌, sym, ap, ◌∙◌, Bool, List, [], ◌++◌, append-nil, ℕ, ◌+◌, ◌-◌, length, take, drop, drop_of_length-le, length-append, length-drop, length-take-le}
use borrow.Rule.Slice.PartMut.{put_mid}
use Rattle.rules.specs.Words.{keep}
use Rattle.sweeps.specs.Swept.{parted, Parted}
use Rattle.sweeps.specs.First.{begun-none}
use Rattle.partition.specs.Looks.{Front}
use Rattle.partition.specs.Stays.{passed-kept, passed-stay, lent-rest}
use Rattle.partition.proofs.part_behind.Goals as goal

-- what is lent from k on is back, parted, behind a front that stays
behind : (p : ℕ → Bool) (l new : List ℕ) (k w : ℕ) → Front p l k → Parted p (take (length l - k) (drop k l)) new w → Parted p l (put_mid k (length l - k) l new) (k + w)
behind p l new k w f q =
    let same : take (length l - k) (drop k l) ≡ drop k l = lent-rest l k in
    let none : drop (length l - k) (drop k l) ≡ [] = drop_of_length-le (drop k l) (omega (arith, length-drop k l)) in
    record {
      within = omega (arith, f.within, ap length same, length-drop k l, q.within);
      count = (λ i. sym (length-take-le k l f.within) i + (q.count ∙ ap (λ z. length (keep p z)) same) i) ∙ sym (length-append (take k l) (keep p (drop k l)))
          ∙ ap length (sym (passed-kept p l k f.passed));
      parts = ap (λ z. take k l ++ (new ++ z)) none ∙ ap (λ z. take k l ++ z) (append-nil new ∙ q.parts ∙ ap (parted p) same) ∙ sym (passed-stay p l k f.passed);
    }

pub returns : goal.returns
returns c = behind _ _ _ _ _ c.first_false-k.ensures.front (c.part_from.ensures.done _ (begun-none _ _ _))
