-- A walk along a column: what is left to test is what was to be tested, the marks are the rows behind, and the last of them is held by its value. The marks of a whole
-- column, and the row told. Assumes nothing.
use Prim.Native.Nat.{ℕ, suc, ◌+◌, ◌-◌, ◌<◌, ◌≤◌}
use Rattle.std.proofs.Common.{add-one, add-zero, ◌∙◌, drop_of_length-le, length-set, get_or-set_same, get_or-set_other, eq-eqb, ne_eqb, lt-ltb, le-ltb, eqb-true, Ok, Err, MatchResult}
use Rattle.std.specs.Result.{IsErrAnd}
use native.Mathlib.Omega.{arith}
use Rattle.std.specs.Prelude.{◌≡◌, refl, Bool, not, ◌||◌, List, [], ◌∷◌, length, set, take, drop, ltb, eqb, Float}
use Rattle.std.proofs.Math.Path.{sym, ap}
use Rattle.std.proofs.Math.Bool.{true, false, cond, or-true, or-false}
use Rattle.std.proofs.Math.ListN.{get_or}
use Rattle.std.specs.Float.Ieee.{lt}
use Rattle.std.proofs.lemmas.Bool.{eqb-false}
use Rattle.std.proofs.lemmas.List.{get_or-take, length-take-le}
use Rattle.std.specs.List.{position_or_len}
use Rattle.rules.specs.declared.Refusal.{Refusal}
use Rattle.rules.specs.Results.{Checked}
use Rattle.rules.specs.Words.{from, joined, member}
use Rattle.rules.specs.Checks.{Test, checked}
use Rattle.rules.specs.Listing.{falls, lacking_from, lowest_lacking, fault, tests_from}
use Rattle.lemmas.specs.Tests.{and_then, checked-append}
use Rattle.lemmas.specs.Scans.{drop-next, range-end, from_next}
use Rattle.lemmas.specs.Marks.{mark-more}

-- ---- the row told

-- what a refusal is turned into, if there is one
abbrev pub on_refusal : (Refusal → Refusal) → Checked → Checked
on_refusal f (Ok _) = Ok tt
on_refusal f (Err r) = Err (f r)

-- which is what `map_err` answers
pub on_refusal-mapped : (f : Refusal → Refusal) (c r : Checked) (Q : Refusal → Refusal → Type 0) → MatchResult c (λ x. r ≡ Ok x) (λ e. IsErrAnd r (Q e))
    → ((e d : Refusal) → Q e d → d ≡ f e) → r ≡ on_refusal f c
on_refusal-mapped f (Ok _) r Q h k = h
on_refusal-mapped f (Err e) (Err d) Q h k = ap Err (k e d h)
on_refusal-mapped f (Err e) (Ok _) Q h k = absurd h

-- with a row met before, this row is told
abbrev pub with_row : ℕ → Refusal → Refusal
with_row x r = cond (eqb r.number 12) (record r { row = x }) r

pub row_told : (rows : ℕ) (value : ℕ → Float) (column lacking : ℕ) (before : List ℕ) (place : ℕ) (l : List ℕ)
    → checked (tests_from rows value column lacking before place l) ≡ on_refusal (with_row lacking) (checked (tests_from rows value column 0 before place l))
unfolding tests_from checked
row_told rows value column lacking before place [] = refl
row_told rows value column lacking before place (k ∷ l) =
    go (ltb k rows) (not (member k before)) (not (falls value before k)) (row_told rows value column lacking (k ∷ before) (suc place) l)
  where
    rest : ℕ → Checked
    rest x = checked (tests_from rows value column x (k ∷ before) (suc place) l)

    three : Bool → Bool → Bool → ℕ → Checked
    three a b c x =
        cond a (cond b (cond c (rest x) (Err (fault 13 column place 0))) (Err (fault 12 column place x))) (Err (fault 11 column place 0))

    go : (a b c : Bool) → rest lacking ≡ on_refusal (with_row lacking) (rest 0) → three a b c lacking ≡ on_refusal (with_row lacking) (three a b c 0)
    go true true true e = e
    go true true false e = refl
    go true false c e = refl
    go false b c e = refl

-- ---- a walk

-- the value held is that of the last row behind
abbrev pub HeldIs : (ℕ → Float) → Float → List ℕ → Type 0
HeldIs value last [] = Unit {0}
HeldIs value last (b ∷ behind) = last ≡ value b

module _ (rows : ℕ) (value : ℕ → Float) (column : ℕ) (l : List ℕ) where
  abbrev asked : List ℕ → ℕ → List ℕ → Checked
  asked before place rest = checked (tests_from rows value column 0 before place rest)

  pub record Walked (seen : List Bool) (last : Float) (i : ℕ) : Type 0 where
    pub behind : List ℕ
    pub within : i ≤ length l
    pub many : length behind ≡ i
    pub held : HeldIs value last behind
    pub left : asked [] 0 l ≡ asked behind i (drop i l)
    pub marks : (r : ℕ) → r < rows → get_or seen r false ≡ member r behind

  pub walk-starts : (seen : List Bool) (last : Float) → ((r : ℕ) → r < rows → get_or seen r false ≡ false) → Walked seen last 0
  unfolding member
  walk-starts seen last clear = record { behind = []; within = omega arith; many = refl; held = tt; left = refl; marks = clear }

  module _ (seen : List Bool) (last : Float) (i : ℕ) (w : Walked seen last i) where
    pub walk_ends : length l ≤ i → (Ok tt) ≡ asked [] 0 l
    unfolding tests_from checked
    walk_ends h = sym (w.left ∙ ap (asked w.behind i) (drop_of_length-le l h))

    module _ (h : i < length l) where
      abbrev row : ℕ
      row = get_or l i 0

      three : Bool → Bool → Bool → Checked
      three a b c =
          cond a (cond (not b) (cond (not c) (asked (row ∷ w.behind) (suc i) (drop (i + 1) l)) (Err (fault 13 column i 0))) (Err (fault 12 column i 0)))
          (Err (fault 11 column i 0))

      here : asked [] 0 l ≡ three (ltb row rows) (member row w.behind) (falls value w.behind row)
      unfolding tests_from checked three
      here = w.left ∙ ap (asked w.behind i) (drop-next l i 0 h)

      pub walk-out : rows ≤ row → Err (fault 11 column i 0) ≡ asked [] 0 l
      unfolding three
      walk-out b = sym (here ∙ ap (λ z. three z (member row w.behind) (falls value w.behind row)) (le-ltb row rows b))

      module _ (b : row < rows) where
        marked : (z : Bool) → get_or seen row false ≡ z → member row w.behind ≡ z
        marked z e = sym (w.marks row b) ∙ e

        pub walk-twice : get_or seen row false ≡ true → Err (fault 12 column i 0) ≡ asked [] 0 l
        unfolding three
        walk-twice e = sym (here ∙ λ j. three (lt-ltb row rows b j) (marked true e j) (falls value w.behind row))

        module _ (e : get_or seen row false ≡ false) (next : Float) (n : next ≡ value row) (z : Bool) (f : z ≡ cond (eqb i 0) false (lt next last)) where
          fallen : z ≡ falls value w.behind row
          unfolding falls
          fallen = f ∙ ap (λ x. cond (eqb i 0) false (lt x last)) n ∙ go w.behind w.many w.held
            where
              some : (m : ℕ) → suc m ≡ 0 → ⊥
              some m o = omega arith

              go : (behind : List ℕ) → length behind ≡ i → HeldIs value last behind → cond (eqb i 0) false (lt (value row) last) ≡ falls value behind row
              go [] n q = ap (λ t. cond t false (lt (value row) last)) (eq-eqb i 0 (sym n))
              go (k ∷ behind) n q = (λ j. cond (ne_eqb i 0 (λ o. some (length behind) (n ∙ o)) j) false (lt (value row) (q j)))

          step : asked [] 0 l ≡ three true false z
          unfolding three
          step = here ∙ λ j. three (lt-ltb row rows b j) (marked false e j) (sym fallen j)

          pub walk-falls : z ≡ true → Err (fault 13 column i 0) ≡ asked [] 0 l
          unfolding three
          walk-falls t = sym (step ∙ ap (three true false) t)

          pub walk-goes : z ≡ false → rows ≤ length seen → Walked (set seen row true) next (i + 1)
          unfolding three
          walk-goes t room =
              record {
                behind = row ∷ w.behind;
                within = omega arith;
                many = omega (arith, w.many);
                held = n;
                left = step ∙ ap (three true false) t ∙ ap (λ n. asked (row ∷ w.behind) n (drop (i + 1) l)) (sym (add-one i));
                marks = mark-more rows seen w.behind row w.marks room b;
              }

-- ---- the marks of a whole column

-- what is marked or still ahead is what was marked or is in the column
abbrev pub MarksTo : List ℕ → List Bool → List Bool → ℕ → Type 0
MarksTo l seen₀ seen i = (length seen ≡ length seen₀) × ((k : ℕ) → k < length seen₀ → (get_or seen k false || member k (drop i l)) ≡ (get_or seen₀ k false || member k l))

module _ (l : List ℕ) (seen₀ seen : List Bool) (i : ℕ) (m : MarksTo l seen₀ seen i) where
  pub marks-end : length l ≤ i → (k : ℕ) → k < length seen₀ → get_or seen k false ≡ (get_or seen₀ k false || member k l)
  unfolding member
  marks-end h k b = sym (or-false (get_or seen k false)) ∙ ap (λ r. get_or seen k false || member k r) (sym (drop_of_length-le l h)) ∙ m.1 k b

  module _ (h : i < length l) where
    ahead : (k : ℕ) → k < length seen₀ → (get_or seen k false || (eqb k (get_or l i 0) || member k (drop (i + 1) l))) ≡ (get_or seen₀ k false || member k l)
    unfolding member
    ahead k b = ap (λ r. get_or seen k false || member k r) (sym (drop-next l i 0 h)) ∙ m.1 k b

    -- a number beyond the marks is not marked
    pub marks-pass : length seen ≤ get_or l i 0 → MarksTo l seen₀ seen (i + 1)
    marks-pass beyond = (m.0, λ k b. ap (λ z. get_or seen k false || (z || member k (drop (i + 1) l))) (sym (ne_eqb k (get_or l i 0) (λ q. other k b q))) ∙ ahead k b)
      where
        other : (k : ℕ) → k < length seen₀ → k ≡ get_or l i 0 → ⊥
        other k b q = omega (arith, m.0, beyond)

    pub marks-go : get_or l i 0 < length seen → MarksTo l seen₀ (set seen (get_or l i 0) true) (i + 1)
    marks-go b = (length-set seen (get_or l i 0) true ∙ m.0, λ k h. go k h (eqb k (get_or l i 0)) refl)
      where
        go : (k : ℕ) → k < length seen₀ → (t : Bool) → eqb k (get_or l i 0) ≡ t
            → (get_or (set seen (get_or l i 0) true) k false || member k (drop (i + 1) l)) ≡ (get_or seen₀ k false || member k l)
        go k h true t =
            (λ j. get_or (set seen (get_or l i 0) true) (eqb-true k (get_or l i 0) t j) false || member k (drop (i + 1) l))
            ∙ ap (λ z. z || member k (drop (i + 1) l)) (get_or-set_same seen (get_or l i 0) true false b)
            ∙ sym (or-true (get_or seen k false))
            ∙ (λ j. get_or seen k false || (sym t j || member k (drop (i + 1) l)))
            ∙ ahead k h
        go k h false t =
            ap (λ z. z || member k (drop (i + 1) l)) (get_or-set_other seen (get_or l i 0) k true false (eqb-false k (get_or l i 0) t))
            ∙ (λ j. get_or seen k false || (sym t j || member k (drop (i + 1) l)))
            ∙ ahead k h

-- ---- the first number that is not marked

-- marked or not from a number on: the first that is not is the lowest lacking
pub lacking-clear : (l : List ℕ) (seen : List Bool) (a : ℕ) → ((k : ℕ) → k < length seen → get_or seen k false ≡ member (a + k) l)
    → lacking_from l a (length seen) ≡ a + position_or_len (λ b. not b) seen
unfolding lacking_from
lacking-clear l [] a h = omega arith
lacking-clear l (b ∷ seen) a h = go b here (lacking-clear l seen (suc a) (λ k m. h (suc k) (omega (arith, m)) ∙ ap (λ n. member n l) (along a k)))
  where
    along : (a k : ℕ) → a + suc k ≡ suc a + k
    along a k = omega arith

    here : b ≡ member a l
    here = h 0 (omega arith) ∙ ap (λ n. member n l) (add-zero a)

    go : (b : Bool) → b ≡ member a l → lacking_from l (suc a) (length seen) ≡ suc a + position_or_len (λ b. not b) seen
        → cond (member a l) (lacking_from l (suc a) (length seen)) a ≡ a + position_or_len (λ b. not b) (b ∷ seen)
    go true e r = ap (λ c. cond c (lacking_from l (suc a) (length seen)) a) (sym e) ∙ r ∙ omega arith
    go false e r = ap (λ c. cond c (lacking_from l (suc a) (length seen)) a) (sym e) ∙ sym (add-zero a)

-- the same of the first so many marks
pub lowest-clear : (l : List ℕ) (seen : List Bool) (n rows : ℕ) → n ≡ rows → rows ≤ length seen → ((k : ℕ) → k < rows → get_or seen k false ≡ member k l)
    → position_or_len (λ b. not b) (take n seen) ≡ lowest_lacking rows l
unfolding lowest_lacking
lowest-clear l seen n rows e long h =
    zero-first _ _ (lacking-clear l (take n seen) 0 (λ k m. get_or-take n seen k false (omega (arith, m, count)) ∙ h k (omega (arith, m, count)) ∙ ap (λ i. member i l) (start k)))
    ∙ ap (lacking_from l 0) (count ∙ e)
  where
    count : length (take n seen) ≡ n
    count = length-take-le n seen (omega (arith, e, long))

    start : (k : ℕ) → k ≡ 0 + k
    start k = omega arith

    zero-first : (a b : ℕ) → a ≡ 0 + b → b ≡ a
    zero-first a b e = omega arith

-- ---- column after column

module _ (f : ℕ → List Test) (n j : ℕ) where
  abbrev on : ℕ → Checked
  on k = checked (joined f (from k (n - k)))

  pub columns-end : n ≤ j → (Ok tt) ≡ on j
  unfolding joined checked
  columns-end h = ap (λ l. checked (joined f l)) (sym (range-end j j n h))

  module _ (h : j < n) where
    turn : on j ≡ and_then (checked (f j)) (on (j + 1))
    unfolding joined
    turn = ap (λ l. checked (joined f l)) (from_next j n h) ∙ checked-append (f j) (joined f (from (j + 1) (n - (j + 1))))

    pub columns-go : checked (f j) ≡ (Ok tt) → on j ≡ on (j + 1)
    columns-go e = turn ∙ ap (λ c. and_then c (on (j + 1))) e

    pub columns-stop : (r : Refusal) → checked (f j) ≡ Err r → Err r ≡ on j
    columns-stop r e = sym (turn ∙ ap (λ c. and_then c (on (j + 1))) e)
