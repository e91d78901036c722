-- Walks along a listing by places: what each of its tests says, how a column ends, and that a row twice leaves another out. Assumes nothing.
use Prim.Native.Nat.{ℕ, zero, suc, ◌+◌, ◌-◌, ◌<◌, ◌≤◌}
use Rattle.std.proofs.Common.{zero-add, add-zero, le_refl, not-suc-le-zero, sym, ap, ◌∙◌, subst, true≢false, eq-eqb, ne_eqb, eqb-true, ltb-true, ltb-false, Ok, Err}
use Rattle.std.proofs.Math.Decide.{ℕ_discrete}
use native.Mathlib.Omega.{arith}
use Rattle.std.specs.Prelude.{◌≡◌, ◌≢◌, Bool, false, not, ◌||◌, cond, ltb, eqb, Float}
use Rattle.std.proofs.Math.Path.{refl}
use Rattle.std.proofs.Math.Bool.{true, or-true}
use mathlib.Core.List.{List, [], ◌∷◌}
use Rattle.std.proofs.Math.ListN.{length, get_or}
use Rattle.std.specs.Float.Ieee.{lt}
use Rattle.rules.specs.declared.Refusal.{Refusal}
use Rattle.rules.specs.Results.{Checked}
use Rattle.rules.specs.Words.{from, joined, member, total}
use Rattle.rules.specs.Checks.{Test, checked}
use Rattle.rules.specs.Listing.{falls, lacking_from, lowest_lacking, fault, tests_from}
use Rattle.lemmas.specs.Tests.{and_then, checked-append}

-- ---- the statements: places of a listing w

-- a number stands in it
pub record At (w : List ℕ) (k : ℕ) : Type 0 where
  pub place : ℕ
  pub within : place < length w
  pub is : get_or w place 0 ≡ k

-- place p is in order: its row is one of the rows, stands at no place before, and has no value below that of the row before
pub record InOrder (rows : ℕ) (value : ℕ → Float) (w : List ℕ) (p : ℕ) : Type 0 where
  pub known : get_or w p 0 < rows
  pub new : (q : ℕ) → q < p → get_or w q 0 ≢ get_or w p 0
  pub rises : (q : ℕ) → suc q ≡ p → lt (value (get_or w p 0)) (value (get_or w q 0)) ≡ false

-- the first of the three that it breaks, by its number
pub data Breaks (rows : ℕ) (value : ℕ → Float) (w : List ℕ) (p number : ℕ) : Type 0 where
  too_large : number ≡ 11 → rows ≤ get_or w p 0 → Breaks rows value w p number
  met_before : number ≡ 12 → get_or w p 0 < rows → (q : ℕ) → q < p → get_or w q 0 ≡ get_or w p 0 → Breaks rows value w p number
  fallen : number ≡ 13 → get_or w p 0 < rows → ((q : ℕ) → q < p → get_or w q 0 ≢ get_or w p 0) → (q : ℕ) → suc q ≡ p
      → lt (value (get_or w p 0)) (value (get_or w q 0)) ≡ true → Breaks rows value w p number

-- the lowest row that it lacks
pub record Lacks (rows : ℕ) (w : List ℕ) (row : ℕ) : Type 0 where
  pub known : row < rows
  pub nowhere : (p : ℕ) → p < length w → get_or w p 0 ≢ row
  pub lowest : (k : ℕ) → k < row → At w k

-- ---- members by their places

member-at : (k : ℕ) (l : List ℕ) → member k l ≡ true → At l k
unfolding member
member-at k [] h = absurd (true≢false (sym h))
member-at k (x ∷ l) h = go (eqb k x) refl (member-at k l) h
  where
    go : (b : Bool) → eqb k x ≡ b → (member k l ≡ true → At l k) → (b || member k l) ≡ true → At (x ∷ l) k
    go true e later h = record { place = 0; within = omega arith; is = sym (eqb-true k x e) }
    go false e later h = let a = later h in record { place = suc a.place; within = omega (arith, a.within); is = a.is }

at-member : (l : List ℕ) (t : ℕ) → t < length l → member (get_or l t 0) l ≡ true
unfolding member
at-member [] t h = absurd (not-suc-le-zero h)
at-member (x ∷ l) zero h = ap (λ b. b || member x l) (eq-eqb x x refl)
at-member (x ∷ l) (suc t) h = ap (λ b. eqb (get_or l t 0) x || b) (at-member l t (omega arith)) ∙ or-true (eqb (get_or l t 0) x)

-- ---- a walk along w

module _ (rows : ℕ) (value : ℕ → Float) (column lacking : ℕ) (w : List ℕ) where
  -- l is left of it, and the rows before, the last first, are those of the places before
  record Walk (before : List ℕ) (place : ℕ) (l : List ℕ) : Type 0 where
    many : length before ≡ place
    long : place + length l ≡ length w
    same : (q : ℕ) → q < place → get_or before (place - suc q) 0 ≡ get_or w q 0
    rest : (q : ℕ) → get_or l q 0 ≡ get_or w (place + q) 0

  starts : Walk [] 0 w
  starts = record { many = refl; long = zero-add (length w); same = λ q h. absurd (not-suc-le-zero h); rest = λ q. ap (λ n. get_or w n 0) (sym (zero-add q)) }

  module _ (before : List ℕ) (place k : ℕ) (l : List ℕ) (v : Walk before place (k ∷ l)) where
    here : get_or w place 0 ≡ k
    here = ap (λ n. get_or w n 0) (sym (add-zero place)) ∙ sym (v.rest 0)

    inside : place < length w
    inside = some (length l) place (length w) v.long
      where
        some : (a b c : ℕ) → b + suc a ≡ c → b < c
        some a b c h = omega arith

    goes : Walk (k ∷ before) (suc place) l
    goes =
        record {
          many = ap suc v.many;
          long = shift place (length l) ∙ v.long;
          same = λ q h. turn q h (ℕ_discrete q place);
          rest = λ q. v.rest (suc q) ∙ ap (λ n. get_or w n 0) (sym (shift place q));
        }
      where
        shift : (a b : ℕ) → suc a + b ≡ a + suc b
        shift a b = omega arith

        none : (q p : ℕ) → q ≡ p → suc p - suc q ≡ 0
        none q p e = omega arith

        less : (q p : ℕ) → q < p → suc p - suc q ≡ suc (p - suc q)
        less q p h = omega arith

        turn : (q : ℕ) → q < suc place → Dec (q ≡ place) → get_or (k ∷ before) (suc place - suc q) 0 ≡ get_or w q 0
        turn q h (yes e) = ap (λ n. get_or (k ∷ before) n 0) (none q place e) ∙ sym here ∙ ap (λ n. get_or w n 0) (sym e)
        turn q h (no d) =
            let b : q < place = omega (arith, h, d) in
            ap (λ n. get_or (k ∷ before) n 0) (less q place b) ∙ v.same q b

    not-met : member k before ≡ false → (q : ℕ) → q < place → get_or w q 0 ≢ get_or w place 0
    not-met f q h e =
        true≢false (sym (ap (λ n. member n before) (sym (v.same q h ∙ e ∙ here)) ∙ at-member before (place - suc q) (low q place (length before) h v.many)) ∙ f)
      where
        low : (q p n : ℕ) → q < p → n ≡ p → p - suc q < n
        low q p n h e = omega arith

    -- the place before at which a member of the rows before stands
    earlier : (a : At before k) → (place - suc a.place < place) × (get_or w (place - suc a.place) 0 ≡ get_or w place 0)
    earlier a =
        let q : ℕ = place - suc a.place in
        let h : a.place < place = subst (λ n. a.place < n) v.many a.within in
        (less a.place place h, sym (v.same q (less a.place place h)) ∙ ap (λ n. get_or before n 0) (back a.place place h) ∙ a.is ∙ sym here)
      where
        less : (t p : ℕ) → t < p → p - suc t < p
        less t p h = omega arith

        back : (t p : ℕ) → t < p → p - suc (p - suc t) ≡ t
        back t p h = omega arith

    -- the row before
    last : (b : ℕ) (bs : List ℕ) → before ≡ b ∷ bs → (q : ℕ) → suc q ≡ place → get_or w q 0 ≡ b
    last b bs e q h = sym (v.same q (under q place h)) ∙ (λ i. get_or (e i) (none q place h i) 0)
      where
        under : (q p : ℕ) → suc q ≡ p → q < p
        under q p h = omega arith

        none : (q p : ℕ) → suc q ≡ p → p - suc q ≡ 0
        none q p h = omega arith

    not-fallen : falls value before k ≡ false → (q : ℕ) → suc q ≡ place → lt (value (get_or w place 0)) (value (get_or w q 0)) ≡ false
    unfolding falls
    not-fallen f q h = go before refl v.many f
      where
        no : (a p : ℕ) → 0 ≡ p → suc a ≡ p → ⊥
        no a p x y = omega arith

        go : (bs : List ℕ) → before ≡ bs → length bs ≡ place → falls value bs k ≡ false → lt (value (get_or w place 0)) (value (get_or w q 0)) ≡ false
        go [] e n f = absurd (no q place n h)
        go (b ∷ bs) e n f = (λ i. lt (value (here i)) (value (last b bs e q h i))) ∙ f

    falls-here : get_or w place 0 < rows → ((q : ℕ) → q < place → get_or w q 0 ≢ get_or w place 0) → falls value before k ≡ true → Breaks rows value w place 13
    unfolding falls
    falls-here known new f = go before refl v.many f
      where
        go : (bs : List ℕ) → before ≡ bs → length bs ≡ place → falls value bs k ≡ true → Breaks rows value w place 13
        go [] e n f = absurd (true≢false (sym f))
        go (b ∷ bs) e n f = fallen refl known new (length bs) n ((λ i. lt (value (here i)) (value (last b bs e (length bs) n i))) ∙ f)

  -- ---- how it ends

  pub record FaultIn (place : ℕ) (r : Refusal) : Type 0 where
    pub part : r.part ≡ column
    pub onward : place ≤ r.place
    pub within : r.place < length w
    pub breaks : Breaks rows value w r.place r.number
    pub before : (p : ℕ) → place ≤ p → p < r.place → InOrder rows value w p
    pub row : r.row ≡ cond (eqb r.number 12) lacking 0

  abbrev pub Ends : ℕ → Checked → Type 0
  Ends place (Ok _) = (p : ℕ) → place ≤ p → p < length w → InOrder rows value w p
  Ends place (Err r) = FaultIn place r

  split : (place p : ℕ) → place ≤ p → InOrder rows value w place → (suc place ≤ p → InOrder rows value w p) → InOrder rows value w p
  split place p h here later = go (ℕ_discrete place p)
    where
      go : Dec (place ≡ p) → InOrder rows value w p
      go (yes e) = subst (InOrder rows value w) e here
      go (no d) = later (omega (arith, h, d))

  widen : (place : ℕ) (c : Checked) → InOrder rows value w place → Ends (suc place) c → Ends place c
  widen place (Ok _) here e = λ p a b. split place p a here (λ l. e p l b)
  widen place (Err r) here e =
      record {
        part = e.part;
        onward = omega (arith, e.onward);
        within = e.within;
        breaks = e.breaks;
        before = λ p a b. split place p a here (λ l. e.before p l b);
        row = e.row;
      }

  ends : (before : List ℕ) (place : ℕ) (l : List ℕ) → Walk before place l → Ends place (checked (tests_from rows value column lacking before place l))
  unfolding tests_from checked
  ends before place [] v = λ p a b. absurd (over place (length w) p v.long a b)
    where
      over : (n m p : ℕ) → n + 0 ≡ m → n ≤ p → p < m → ⊥
      over n m p e a b = omega arith
  ends before place (k ∷ l) v =
      go (ltb k rows) refl (member k before) refl (falls value before k) refl (ends (k ∷ before) (suc place) l (goes before place k l v))
    where
      is : get_or w place 0 ≡ k
      is = here before place k l v

      at : (n row : ℕ) → Breaks rows value w place n → row ≡ cond (eqb n 12) lacking 0 → FaultIn place (fault n column place row)
      at n row b e =
          record { part = refl; onward = le_refl place; within = inside before place k l v; breaks = b; before = λ p x y. absurd (omega (arith, x, y)); row = e }

      below : ltb k rows ≡ true → get_or w place 0 < rows
      below e = subst (λ n. n < rows) (sym is) (ltb-true k rows e)

      go : (a : Bool) → ltb k rows ≡ a → (b : Bool) → member k before ≡ b → (c : Bool) → falls value before k ≡ c
          → Ends (suc place) (checked (tests_from rows value column lacking (k ∷ before) (suc place) l))
          → Ends place (cond a (cond (not b) (cond (not c) (checked (tests_from rows value column lacking (k ∷ before) (suc place) l)) (Err (fault 13 column place 0)))
          (Err (fault 12 column place lacking))) (Err (fault 11 column place 0)))
      go false ea b eb c ec e = at 11 0 (too_large refl (subst (λ n. rows ≤ n) (sym is) (ltb-false k rows ea))) refl
      go true ea true eb c ec e =
          let (q, s) = earlier before place k l v (member-at k before eb) in at 12 lacking (met_before refl (below ea) _ q s) refl
      go true ea false eb true ec e = at 13 0 (falls-here before place k l v (below ea) (not-met before place k l v eb) ec) refl
      go true ea false eb false ec e =
          widen place (checked (tests_from rows value column lacking (k ∷ before) (suc place) l))
          (record { known = below ea; new = not-met before place k l v eb; rises = not-fallen before place k l v ec }) e

  pub column-ends : Ends 0 (checked (tests_from rows value column lacking [] 0 w))
  column-ends = ends [] 0 w starts

-- ---- column after column

pub record ColumnOf (f : ℕ → List Test) (a n : ℕ) (r : Refusal) : Type 0 where
  pub column : ℕ
  pub onward : a ≤ column
  pub below : column < a + n
  pub here : checked (f column) ≡ Err r
  pub earlier : (j : ℕ) → a ≤ j → j < column → checked (f j) ≡ Ok tt

abbrev pub Columns : (ℕ → List Test) → ℕ → ℕ → Checked → Type 0
Columns f a n (Ok _) = (j : ℕ) → a ≤ j → j < a + n → checked (f j) ≡ Ok tt
Columns f a n (Err r) = ColumnOf f a n r

pub columns-end : (f : ℕ → List Test) (a n : ℕ) → Columns f a n (checked (joined f (from a n)))
unfolding joined from checked
columns-end f a zero = λ j x y. absurd (omega (arith, x, y))
columns-end f a (suc n) = subst (Columns f a (suc n)) (sym (checked-append (f a) (joined f (from (suc a) n)))) (go (checked (f a)) refl (checked (joined f (from (suc a) n))) (columns-end f (suc a) n))
  where
    split : (j : ℕ) → a ≤ j → checked (f a) ≡ Ok tt → (suc a ≤ j → checked (f j) ≡ (Ok tt)) → Dec (a ≡ j) → checked (f j) ≡ Ok tt
    split j h e later (yes q) = ap (λ i. checked (f i)) (sym q) ∙ e
    split j h e later (no d) = later (omega (arith, h, d))

    go : (c : Checked) → checked (f a) ≡ c → (d : Checked) → Columns f (suc a) n d → Columns f a (suc n) (and_then c d)
    go (Err r) e d k =
        record { column = a; onward = le_refl a; below = omega arith; here = e; earlier = λ j x y. absurd (omega (arith, x, y)) }
    go (Ok _) e (Ok _) k = λ j x y. split j x e (λ l. k j l (omega (arith, y))) (ℕ_discrete a j)
    go (Ok _) e (Err r) k =
        record {
          column = k.column;
          onward = omega (arith, k.onward);
          below = omega (arith, k.below);
          here = k.here;
          earlier = λ j x y. split j x e (λ l. k.earlier j l y) (ℕ_discrete a j);
        }

-- ---- a row twice leaves another out

-- how many numbers of a range a list has
abbrev has : List ℕ → ℕ → ℕ → ℕ
has l a n = total (λ i. cond (member i l) 1 0) (from a n)

-- one number more adds one at most, and none that is past or already there
has-past : (x : ℕ) (l : List ℕ) (a n : ℕ) → x < a → has (x ∷ l) a n ≡ has l a n
unfolding member total from
has-past x l a zero h = refl
has-past x l a (suc n) h = λ i. cond (ne_eqb a x (λ q. off a x h q) i || member a l) 1 0 + has-past x l (suc a) n (omega arith) i
  where
    off : (a x : ℕ) → x < a → a ≡ x → ⊥
    off a x h q = omega arith

has_more : (x : ℕ) (l : List ℕ) (a n : ℕ) → has (x ∷ l) a n ≤ suc (has l a n)
unfolding member total from
has_more x l a zero = omega arith
has_more x l a (suc n) = go (eqb a x) refl (has_more x l (suc a) n)
  where
    one : (b c : Bool) (s t : ℕ) → s ≡ t → cond b 1 0 + s ≤ suc (cond c 1 0 + t)
    one true c s t e = omega arith
    one false c s t e = omega arith

    past : (a x : ℕ) → a ≡ x → x < suc a
    past a x q = omega arith

    keep : (m s t : ℕ) → s ≤ suc t → m + s ≤ suc (m + t)
    keep m s t h = omega arith

    go : (b : Bool) → eqb a x ≡ b → has (x ∷ l) (suc a) n ≤ suc (has l (suc a) n) → cond (b || member a l) 1 0 + has (x ∷ l) (suc a) n ≤ suc (cond (member a l) 1 0 + has l (suc a) n)
    go true e h = one true (member a l) _ _ (has-past x l (suc a) n (past a x (eqb-true a x e)))
    go false e h = keep (cond (member a l) 1 0) _ _ h

has-again : (x : ℕ) (l : List ℕ) (a n : ℕ) → member x l ≡ true → has (x ∷ l) a n ≡ has l a n
unfolding member
has-again x l a n m = λ i. total (λ k. cond (same k (eqb k x) refl i) 1 0) (from a n)
  where
    same : (k : ℕ) (b : Bool) → eqb k x ≡ b → (eqb k x || member k l) ≡ member k l
    same k true e = ap (λ b. b || member k l) e ∙ sym (ap (λ j. member j l) (eqb-true k x e) ∙ m)
    same k false e = ap (λ b. b || member k l) e

at_most : (l : List ℕ) (n : ℕ) → has l 0 n ≤ length l
unfolding member total from
at_most [] n = none n 0
  where
    none : (n a : ℕ) → has [] a n ≤ 0
    none zero a = omega arith
    none (suc n) a = omega (arith, none n (suc a))
at_most (x ∷ l) n = omega (arith, has_more x l 0 n, at_most l n)

twice : (l : List ℕ) (q p n : ℕ) → q < p → p < length l → get_or l q 0 ≡ get_or l p 0 → suc (has l 0 n) ≤ length l
twice [] q p n h b e = absurd (omega arith)
twice (x ∷ l) zero (suc p) n h b e =
    let again = has-again x l 0 n (ap (λ k. member k l) e ∙ at-member l p (omega arith)) in
    omega (arith, again, at_most l n)
twice (x ∷ l) (suc q) (suc p) n h b e = omega (arith, has_more x l 0 n, twice l q p n (omega arith) (omega arith) e)
twice (x ∷ l) q zero n h b e = absurd (not-suc-le-zero h)

all_there : (l : List ℕ) (a n : ℕ) → ((k : ℕ) → a ≤ k → k < a + n → member k l ≡ true) → has l a n ≡ n
unfolding total from
all_there l a zero h = refl
all_there l a (suc n) h = (λ i. cond (h a (le_refl a) (omega arith) i) 1 0 + all_there l (suc a) n (λ k x y. h k (omega arith) (omega arith)) i) ∙ one n
  where
    one : (n : ℕ) → 1 + n ≡ suc n
    one n = omega arith

-- ---- the lowest row lacking

-- x is the first of n numbers from a on that is not in l, or the one after them
abbrev FirstOut : List ℕ → ℕ → ℕ → ℕ → Type 0
FirstOut l a n x = (x ≤ a + n) × ((k : ℕ) → a ≤ k → k < x → member k l ≡ true) × (x < a + n → member x l ≡ false)

lacks-from : (l : List ℕ) (a n : ℕ) → FirstOut l a n (lacking_from l a n)
unfolding lacking_from
lacks-from l a zero = (omega arith, (λ k x y. absurd (omega (arith, x, y))), (λ h. absurd (omega (arith, h))))
lacks-from l a (suc n) = go (member a l) refl (lacks-from l (suc a) n)
  where
    go : (b : Bool) → member a l ≡ b → FirstOut l (suc a) n (lacking_from l (suc a) n) → FirstOut l a (suc n) (cond b (lacking_from l (suc a) n) a)
    go true e (x, y, z) = (omega (arith, x), (λ k b c. split k b c (ℕ_discrete a k)), (λ h. z (omega (arith, h))))
      where
        split : (k : ℕ) → a ≤ k → k < lacking_from l (suc a) n → Dec (a ≡ k) → member k l ≡ true
        split k b c (yes q) = ap (λ j. member j l) (sym q) ∙ e
        split k b c (no d) = y k (omega (arith, b, d)) c
    go false e r = (omega arith, (λ k x y. absurd (omega (arith, x, y))), (λ h. e))

-- two places of a listing hold the same row: it lacks one
pub lacks : (rows : ℕ) (w : List ℕ) → length w ≡ rows → (q p : ℕ) → q < p → p < length w → get_or w q 0 ≡ get_or w p 0 → Lacks rows w (lowest_lacking rows w)
unfolding lowest_lacking
lacks rows w long q p h b e =
    let (x, y, z) = lacks-from w 0 rows in
    let known : lacking_from w 0 rows < rows = below x y in
    record {
      known = known;
      nowhere = λ t l o. true≢false (sym (ap (λ k. member k w) (sym o) ∙ at-member w t l) ∙ z (subst (λ n. lacking_from w 0 rows < n) (sym (zero-add rows)) known));
      lowest = λ k l. member-at k w (y k (omega arith) l);
    }
  where
    below : lacking_from w 0 rows ≤ 0 + rows → ((k : ℕ) → 0 ≤ k → k < lacking_from w 0 rows → member k w ≡ true) → lacking_from w 0 rows < rows
    below x y = go (ℕ_discrete (lacking_from w 0 rows) rows)
      where
        go : Dec (lacking_from w 0 rows ≡ rows) → lacking_from w 0 rows < rows
        go (yes o) = absurd (omega (arith, twice w q p rows h b e, all_there w 0 rows (λ k a c. y k a (subst (λ n. k < n) (sym o) (omega (arith, c)))), long))
        go (no d) = omega (arith, x, d)
