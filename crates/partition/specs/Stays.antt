-- A list whose first entries pass a test: what is kept of it, and that partitioning it leaves them where they stand. Assumes nothing.
use Rattle.std.specs.Prelude.{ℕ, ◌+◌, ◌-◌, ◌<◌, ◌≤◌, ◌≡◌, refl, Bool, true, not, ◌&&◌, List, [], ◌∷◌, ◌++◌, length, get_or, take, drop}
use Rattle.std.proofs.Common.{add-one, arith, sym, ap, ◌∙◌, subst, append_assoc, take-append-drop, length-drop, take-suc, take_all}
use Rattle.rules.specs.Words.{keep}
use Rattle.lemmas.specs.Tests.{and_both}
use Rattle.lemmas.specs.Lists.{Every, every-imp, every_append, keep_all, keep-none, keep_append}
use Rattle.sweeps.specs.Swept.{fails, parted}
use Rattle.partition.specs.Looks.{Front}

-- one more entry that passes
pub front-more : (p : ℕ → Bool) (l : List ℕ) (n : ℕ) → Front p l n → n < length l → p (get_or l n 0) ≡ true → {m : ℕ} → m ≡ n + 1 → Front p l m
front-more p l n f h t {m} e =
    record {
      within = omega arith;
      passed = subst (Every (λ r. p r ≡ true)) (sym (ap (λ k. take k l) (e ∙ add-one n) ∙ take-suc l n 0 h))
          (every_append _ (take n l) (get_or l n 0 ∷ []) f.passed (t, tt));
    }

-- none yet
pub front-none : (p : ℕ → Bool) (l : List ℕ) → Front p l 0
front-none p l = record { within = omega arith; passed = tt }

-- two more, four more, by their flags
module _ (p : ℕ → Bool) (l : List ℕ) (k : ℕ) (f : Front p l k) where
  pub front-two : k + 2 ≤ length l → {a b : Bool} → a ≡ p (get_or l k 0) → b ≡ p (get_or l (k + 1) 0) → (a && b) ≡ true → Front p l (k + 2)
  front-two h {a} {b} ea eb t =
      let z = and_both a b t in
      let one : Front p l (k + 1) = front-more p l k f (omega arith) (sym ea ∙ z.0) refl in
      front-more p l (k + 1) one (omega arith) (sym eb ∙ z.1) (omega arith)

  pub front-four : k + 4 ≤ length l → {a b c d : Bool} → a ≡ p (get_or l k 0) → b ≡ p (get_or l (k + 1) 0) → c ≡ p (get_or l (k + 2) 0) → d ≡ p (get_or l (k + 3) 0)
      → (((a && b) && c) && d) ≡ true → Front p l (k + 4)
  front-four h {a} {b} {c} {d} ea eb ec ed t =
      let x = and_both ((a && b) && c) d t in
      let y = and_both (a && b) c x.0 in
      let two : Front p l (k + 2) = front-two (omega arith) ea eb y.0 in
      let three : Front p l (k + 3) = front-more p l (k + 2) two (omega arith) (sym ec ∙ y.1) (omega arith) in
      front-more p l (k + 3) three (omega arith) (sym ed ∙ x.1) (omega arith)

module _ (p : ℕ → Bool) (l : List ℕ) (n : ℕ) (h : Every (λ r. p r ≡ true) (take n l)) where
  -- all of them are kept
  pub passed-kept : keep p l ≡ take n l ++ keep p (drop n l)
  passed-kept =
      ap (keep p) (sym (take-append-drop n l)) ∙ keep_append p (take n l) (drop n l) ∙ ap (λ k. k ++ keep p (drop n l)) (keep_all p (take n l) h)

  -- none of them is left
  pub passed-left : keep (fails p) l ≡ keep (fails p) (drop n l)
  passed-left =
      ap (keep (fails p)) (sym (take-append-drop n l)) ∙ keep_append (fails p) (take n l) (drop n l)
      ∙ ap (λ k. k ++ keep (fails p) (drop n l)) (keep-none (fails p) (take n l) (every-imp _ _ (λ k e. ap not e) (take n l) h))

  -- a partition leaves them where they stand
  pub passed-stay : parted p l ≡ take n l ++ parted p (drop n l)
  passed-stay = (λ i. passed-kept i ++ passed-left i) ∙ append_assoc (take n l) (keep p (drop n l)) (keep (fails p) (drop n l))

-- a list lent from n on
pub lent-rest : (l : List ℕ) (n : ℕ) → take (length l - n) (drop n l) ≡ drop n l
lent-rest l n = take_all (length l - n) (drop n l) (omega (arith, length-drop n l))
