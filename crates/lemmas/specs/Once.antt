-- A list that has each number below n once sums as the range does, by any weight. Assumes nothing.
use Rattle.std.specs.Prelude.{ℕ, zero, suc, ◌+◌, ◌<◌, ◌≤◌, ◌≡◌, refl, ◌≢◌, Bool, true, false, ◌&&◌, ◌||◌, cond, length, eqb, ltb}
use Rattle.std.proofs.Common.{zero-add, add-zero, ◌∙◌, subst}
use Rattle.std.proofs.Math.Decide.{ℕ_discrete}
use native.Mathlib.Omega.{arith}
use Rattle.std.proofs.Math.Path.{sym, ap}
use Rattle.std.proofs.Math.Bool.{not}
use mathlib.Core.List.{List, [], ◌∷◌}
use Rattle.std.proofs.Math.Dec.{T, eqb→eq, eqb_refl, ltb→lt}
use Rattle.std.specs.Float.Ieee.Fits.{and_l, and_r}
use Rattle.floats.specs.Order.{or_l, or_r}
use Rattle.rules.specs.Words.{from, keep, total, member, fresh, each_once}
use Rattle.lemmas.specs.Lists.{is_true, is_false, Every, every-all, every-imp, total-same, total-none, total-keep, length-total, length_from}

pub eqb_yes : (a b : ℕ) → a ≡ b → eqb a b ≡ true
eqb_yes a b q = is_true (eqb a b) (subst (λ k. T (eqb a k)) q (eqb_refl a))

pub eqb_no : (a b : ℕ) → a ≢ b → eqb a b ≡ false
eqb_no a b d = go (eqb a b) (λ t. d (eqb→eq a b t))
  where
    go : (x : Bool) → (T x → ⊥) → x ≡ false
    go true f = absurd (f tt)
    go false f = refl

-- every entry is a member
pub members : (l : List ℕ) → Every (λ k. T (member k l)) l
unfolding member
members [] = tt
members (x ∷ l) = (or_l (eqb x x) (member x l) (eqb_refl x), every-imp _ _ (λ k h. or_r (eqb k x) (member k l) h) l (members l))

-- past x, to leave x out changes nothing
sum_past : (h : ℕ → ℕ) (x i n : ℕ) → x < i → total (λ k. cond (eqb k x) 0 (h k)) (from i n) ≡ total h (from i n)
unfolding total from
sum_past h x i zero l = refl
sum_past h x i (suc n) l = λ r. cond (eqb_no i x (λ q. off i x l q) r) 0 (h i) + sum_past h x (suc i) n (more i x l) r
  where
    off : (i x : ℕ) → x < i → i ≡ x → ⊥
    off i x l q = omega arith

    more : (i x : ℕ) → x < i → x < suc i
    more i x l = omega arith

-- one of a range taken out
pub sum-out : (h : ℕ → ℕ) (x i n : ℕ) → i ≤ x → x < i + n → total h (from i n) ≡ h x + total (λ k. cond (eqb k x) 0 (h k)) (from i n)
unfolding total from
sum-out h x i zero a b = absurd (none i x a b)
  where
    none : (i x : ℕ) → i ≤ x → x < i + 0 → ⊥
    none i x a b = omega arith
sum-out h x i (suc n) a b = go (ℕ_discrete i x) (λ c d. sum-out h x (suc i) n c d)
  where
    next : (i x : ℕ) → i ≤ x → i ≢ x → suc i ≤ x
    next i x a d = omega (arith, d)

    ends : (i x n : ℕ) → x < i + suc n → x < suc i + n
    ends i x n b = omega arith

    past : (i x : ℕ) → i ≡ x → x < suc i
    past i x q = omega arith

    turn : (p q r : ℕ) → p + (q + r) ≡ q + (p + r)
    turn p q r = omega arith

    rest : ℕ
    rest = total (λ k. cond (eqb k x) 0 (h k)) (from (suc i) n)

    go : Dec (i ≡ x) → (suc i ≤ x → x < suc i + n → total h (from (suc i) n) ≡ h x + rest) → h i + total h (from (suc i) n) ≡ h x + (cond (eqb i x) 0 (h i) + rest)
    go (yes q) ih =
        (λ r. h (q r) + sym (zero-add (total h (from (suc i) n))) r)
        ∙ (λ r. h x + (cond (sym (eqb_yes i x q) r) 0 (h i) + sym (sum_past h x (suc i) n (past i x q)) r))
    go (no d) ih =
        ap (λ s. h i + s) (ih (next i x a d) (ends i x n b))
        ∙ turn (h i) (h x) rest
        ∙ (λ r. h x + (cond (sym (eqb_no i x d) r) 0 (h i) + rest))

-- where one alone of a range weighs anything, that is what it weighs
pub sum-alone : (h : ℕ → ℕ) (x n : ℕ) → x < n → ((k : ℕ) → k ≢ x → h k ≡ 0) → total h (from 0 n) ≡ h x
sum-alone h x n l none =
    sum-out h x 0 n (omega arith) (omega (arith, l)) ∙ ap (λ m. h x + m) (total-none _ (from 0 n) (every-all _ (λ k. off k (ℕ_discrete k x)) (from 0 n))) ∙ add-zero (h x)
  where
    off : (k : ℕ) → Dec (k ≡ x) → cond (eqb k x) 0 (h k) ≡ 0
    off k (yes q) = ap (λ b. cond b 0 (h k)) (eqb_yes k x q)
    off k (no d) = ap (λ b. cond b 0 (h k)) (eqb_no k x d) ∙ none k d

-- g where l does not have the number
abbrev miss : List ℕ → (ℕ → ℕ) → ℕ → ℕ
miss l g i = cond (member i l) 0 (g i)

-- the numbers of l, each taken out of a range
taken : List ℕ → List ℕ → List ℕ
taken seen [] = seen
taken seen (x ∷ l) = taken (x ∷ seen) l

drain : (n : ℕ) (g : ℕ → ℕ) (seen l : List ℕ) → T (fresh n seen l) → total (miss seen g) (from 0 n) ≡ total g l + total (miss (taken seen l) g) (from 0 n)
unfolding fresh total taken member
drain n g seen [] t = sym (zero-add (total (miss seen g) (from 0 n)))
drain n g seen (x ∷ l) t =
    sum-out (miss seen g) x 0 n (omega arith) (subst (λ m. x < m) (sym (zero-add n)) below)
    ∙ (λ r. cond (unseen r) 0 (g x) + total-same _ (miss (x ∷ seen) g) (from 0 n) (every-all _ (λ k. join (eqb k x) (member k seen) (g k)) (from 0 n)) r)
    ∙ ap (λ s. g x + s) (drain n g (x ∷ seen) l (and_r (ltb x n && not (member x seen)) (fresh n (x ∷ seen) l) t))
    ∙ regroup (g x) (total g l) (total (miss (taken (x ∷ seen) l) g) (from 0 n))
  where
    new : T (ltb x n && not (member x seen))
    new = and_l (ltb x n && not (member x seen)) (fresh n (x ∷ seen) l) t

    below : x < n
    below = ltb→lt x n (and_l (ltb x n) (not (member x seen)) new)

    unseen : member x seen ≡ false
    unseen = is_false (member x seen) (and_r (ltb x n) (not (member x seen)) new)

    join : (a b : Bool) (m : ℕ) → cond a 0 (cond b 0 m) ≡ cond (a || b) 0 m
    join true b m = refl
    join false b m = refl

    regroup : (a b c : ℕ) → a + (b + c) ≡ a + b + c
    regroup a b c = omega arith

none_left : (g : ℕ → ℕ) (s r : List ℕ) → total (miss s (λ k. 1)) r ≡ 0 → total (miss s g) r ≡ 0
unfolding total
none_left g s [] h = refl
none_left g s (i ∷ r) h = go (member i s) (split-zero _ _ h).0 (none_left g s r (split-zero _ _ h).1)
  where
    split-zero : (a b : ℕ) → a + b ≡ 0 → (a ≡ 0) × (b ≡ 0)
    split-zero a b h = (omega arith, omega arith)

    one-not : ◌≡◌ {A = ℕ} 1 0 → ⊥
    one-not h = omega arith

    go : (b : Bool) → ◌≡◌ {A = ℕ} (cond b 0 1) 0 → total (miss s g) r ≡ 0 → cond b 0 (g i) + total (miss s g) r ≡ 0
    go true h k = zero-add (total (miss s g) r) ∙ k
    go false h k = absurd (one-not h)

module _ (n : ℕ) (l : List ℕ) (t : T (each_once n l)) where
  pub once-length : length l ≡ n
  unfolding each_once
  once-length = eqb→eq (length l) n (and_l (eqb (length l) n) (fresh n [] l) t)

  once : T (fresh n [] l)
  unfolding each_once
  once = and_r (eqb (length l) n) (fresh n [] l) t

  pub once-below : Every (λ k. k < n) l
  unfolding fresh
  once-below = go [] l once
    where
      go : (seen ks : List ℕ) → T (fresh n seen ks) → Every (λ k. k < n) ks
      go seen [] u = tt
      go seen (k ∷ ks) u = (
        ltb→lt k n (and_l (ltb k n) (not (member k seen)) (and_l (ltb k n && not (member k seen)) (fresh n (k ∷ seen) ks) u)),
        go (k ∷ seen) ks (and_r (ltb k n && not (member k seen)) (fresh n (k ∷ seen) ks) u),
      )

  pub once-total : (g : ℕ → ℕ) → total g l ≡ total g (from 0 n)
  unfolding member
  once-total g = sym (add-zero (total g l)) ∙ ap (λ z. total g l + z) (sym rest) ∙ sym (drain n g [] l once)
    where
      zero_rest : (a b c : ℕ) → a ≡ b + c → a ≡ n → b ≡ n → c ≡ 0
      zero_rest a b c x y z = omega arith

      rest : total (miss (taken [] l) g) (from 0 n) ≡ 0
      rest =
          none_left g (taken [] l) (from 0 n)
          (zero_rest (total (λ k. 1) (from 0 n)) (total (λ k. 1) l) _ (drain n (λ k. 1) [] l once)
          (length-total (from 0 n) ∙ length_from 0 n) (length-total l ∙ once-length))

  pub once-keep : (g : ℕ → ℕ) (p : ℕ → Bool) → total g (keep p l) ≡ total g (keep p (from 0 n))
  once-keep g p = total-keep g p l ∙ once-total (λ k. cond (p k) (g k) 0) ∙ sym (total-keep g p (from 0 n))
