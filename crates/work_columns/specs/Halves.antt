-- A split of every column: columns that hold the same rows are parted alike, by the test that set the flags, and the two sides are the children's columns. Assumes nothing.
use Rattle.std.specs.Prelude.{ℕ, zero, suc, ◌+◌, ◌-◌, ◌*◌, ◌<◌, ◌≤◌, ◌≡◌, ◌⊎◌, Bool, true, not, cond, Float, set, take, drop}
use Rattle.std.proofs.Math.Decide.{ℕ_discrete}
use Rattle.std.proofs.Common.{arith, sym, ap, ◌∙◌, inl, inr, length-set, get_or-set_same, get_or-set_other, take_at, drop_at, take_all}
use Rattle.std.proofs.Math.Path.{refl, subst}
use Rattle.std.proofs.Math.Bool.{false}
use mathlib.Core.List.{List, [], ◌∷◌, ◌++◌}
use Rattle.std.proofs.Math.ListN.{length}
use Rattle.rules.specs.declared.Cut.{Cut}
use Rattle.rules.specs.Words.{keep, put_if, total, stretch}
use Rattle.rules.specs.Search.{Element}
use Rattle.rules.specs.Fit.{element_in}
use Rattle.lemmas.specs.Lists.{Every, every-imp, every_append, every-keep, total-keep, length-total}
use Rattle.lemmas.specs.Work.{part}
use Rattle.work_columns.specs.declared.Sides.{Sides}
use Rattle.sweeps.specs.Swept.{flagged, fails, parted}
use Rattle.sweeps.specs.Fronts.{keep-both, parted-long}
use Rattle.work_columns.specs.Columns.{changed, in_columns, parted_columns, ColumnsAsk}
use Rattle.work_columns.specs.Split.{Alike, goes, sides_of, marked, PassDone, SplitAsks, SplitDone}
use Rattle.work_columns.specs.Stretches.{column-end, Keeps, part_in, part_join, part-long, part-every, in-long, in-later, in-beside, in-here}

-- ---- the same rows in another order

pub alike-keep : (p : ℕ → Bool) (l m : List ℕ) → Alike l m → Alike (keep p l) (keep p m)
alike-keep p l m h g = total-keep g p l ∙ h (λ r. cond (p r) (g r) 0) ∙ sym (total-keep g p m)

pub alike-length : (l m : List ℕ) → Alike l m → length l ≡ length m
alike-length l m h = sym (length-total l) ∙ h (λ r. 1) ∙ length-total m

fault : (ℕ → Bool) → ℕ → ℕ
fault p r = cond (p r) 0 1

no-fault : (p : ℕ → Bool) (l : List ℕ) → Every (λ r. p r ≡ true) l → total (fault p) l ≡ 0
unfolding total fault
no-fault p [] e = refl
no-fault p (r ∷ l) e = (λ i. cond (e.0 i) 0 1 + no-fault p l e.1 i)

all_pass : (p : ℕ → Bool) (l : List ℕ) → total (fault p) l ≡ 0 → Every (λ r. p r ≡ true) l
unfolding total fault
all_pass p [] e = tt
all_pass p (r ∷ l) e = (head (p r) (sum-zero _ _ e).0, all_pass p l (sum-zero _ _ e).1)
  where
    sum-zero : (a b : ℕ) → a + b ≡ 0 → (a ≡ 0) × (b ≡ 0)
    sum-zero a b h = (omega arith, omega arith)

    one : ◌≡◌ {A = ℕ} 1 0 → ⊥
    one h = omega arith

    head : (b : Bool) → ◌≡◌ {A = ℕ} (cond b 0 1) 0 → b ≡ true
    head true h = refl
    head false h = absurd (one h)

-- what every row of one passes, every row of the other passes
pub alike-every : (p : ℕ → Bool) (l m : List ℕ) → Alike l m → Every (λ r. p r ≡ true) l → Every (λ r. p r ≡ true) m
alike-every p l m h e = all_pass p m (sym (h (fault p)) ∙ no-fault p l e)

-- ---- flags that a pass set

module _ (q : ℕ → Bool) where
  -- a flag that is right stays right
  marked-stays : (x : ℕ) (l : List ℕ) (flags : List Bool) → Every (λ r. r < length flags) l → flagged flags x ≡ q x → flagged (marked q flags l) x ≡ q x
  unfolding marked
  marked-stays x [] flags b e = e
  marked-stays x (y ∷ l) flags b e = marked-stays x l (set flags y (q y)) (longer l flags y b.1) (right (ℕ_discrete x y))
    where
      longer : (l : List ℕ) (flags : List Bool) (y : ℕ) → Every (λ r. r < length flags) l → Every (λ r. r < length (set flags y (q y))) l
      longer l flags y h = subst (λ n. Every (λ r. r < n) l) (sym (length-set flags y (q y))) h

      right : Dec (x ≡ y) → flagged (set flags y (q y)) x ≡ q x
      right (yes p) = ap (flagged (set flags y (q y))) p ∙ get_or-set_same flags y (q y) false b.0 ∙ ap q (sym p)
      right (no d) = get_or-set_other flags y x (q y) false d ∙ e

  pub marked-right : (l : List ℕ) (flags : List Bool) → Every (λ r. r < length flags) l → Every (λ r. flagged (marked q flags l) r ≡ q r) l
  unfolding marked
  marked-right [] flags b = tt
  marked-right (x ∷ l) flags b =
      let b' : Every (λ r. r < length (set flags x (q x))) l = subst (λ n. Every (λ r. r < n) l) (sym (length-set flags x (q x))) b.1 in
      (marked-stays x l (set flags x (q x)) b' (get_or-set_same flags x (q x) false b.0), marked-right l (set flags x (q x)) b')

  keep-agree : (p : ℕ → Bool) (m : List ℕ) → Every (λ r. p r ≡ q r) m → keep p m ≡ keep q m
  unfolding keep
  keep-agree p [] h = refl
  keep-agree p (x ∷ m) h = λ i. put_if (h.0 i) x (keep-agree p m h.1 i)

alike-bool : Bool → Bool → Bool
alike-bool true b = b
alike-bool false b = not b

bool-alike : (a b : Bool) → a ≡ b → alike-bool a b ≡ true
unfolding alike-bool
bool-alike true b e = sym e
bool-alike false b e = ap not (sym e)

bool_same : (a b : Bool) → alike-bool a b ≡ true → a ≡ b
unfolding alike-bool
bool_same true b e = sym e
bool_same false true e = e
bool_same false false e = refl

-- a partition by flags that are right for l is the partition by the test, of any list with the same rows
pub marked-parted : (q : ℕ → Bool) (flags : List Bool) (l m : List ℕ) → Alike l m → Every (λ r. flagged flags r ≡ q r) l → parted (flagged flags) m ≡ parted q m
marked-parted q flags l m h e =
    λ i. keep-agree q (flagged flags) m right i ++ keep-agree (fails q) (fails (flagged flags)) m (every-imp _ _ (λ r e. ap not e) m right) i
  where
    right : Every (λ r. flagged flags r ≡ q r) m
    right =
        every-imp _ _ (λ r e. bool_same (flagged flags r) (q r) e) m
        (alike-every (λ r. alike-bool (flagged flags r) (q r)) l m h (every-imp _ _ (λ r e. bool-alike (flagged flags r) (q r) e) l e))

-- ---- every column

-- two ways that agree on the rows there change the columns alike
pub in-same : (rows a e : ℕ) (g g' : ℕ → List ℕ → List ℕ) (order : List ℕ) (n : ℕ) → a ≤ e → e ≤ rows → n * rows ≤ length order → Keeps g' n (e - a)
    → ((k : ℕ) → k < n → g k (part rows k a e order) ≡ g' k (part rows k a e order)) → in_columns rows a e g n order ≡ in_columns rows a e g' n order
unfolding in_columns changed
in-same rows a e g g' order zero o h l y s = refl
in-same rows a e g g' order (suc n) o h l y s =
    ap (λ z. changed (n * rows + a) (e - a) (g n) z) (in-same rows a e g g' order n o h short fewer (λ k u. s k (omega arith)))
    ∙ ap (λ z. take (n * rows + a) now ++ (z ++ drop (e - a) (drop (n * rows + a) now))) (ap (g n) there ∙ s n (omega arith) ∙ ap (g' n) (sym there))
  where
    short : n * rows ≤ length order
    short = omega (arith, column-end rows (suc n) n (omega arith))

    fewer : Keeps g' n (e - a)
    fewer k u m v = y k (omega arith) m v

    now : List ℕ
    now = in_columns rows a e g' n order

    there : stretch (n * rows + a) (e - a) now ≡ part rows n a e order
    there = in-later rows a e g' order o h n short fewer n a e (omega arith) o h

parted-keeps : (p : ℕ → Bool) (n m : ℕ) → Keeps (λ k. parted p) n m
parted-keeps p n m k h l e = parted-long p l ∙ e

-- ---- the pass in code, along the split column

module _ (rows features a e : ℕ) (values targets weights : List Float) (counts : List ℕ) (c : Cut) (order : List ℕ) (n flags : ℕ)
    (q : SplitAsks rows features a e values targets weights counts c order n flags) where
  -- as it is lent: from its first row's place to its last one's
  abbrev lent : List ℕ
  lent = stretch (c.feature * rows + a) (c.feature * rows + e - (c.feature * rows + a)) order

  lent_is : lent ≡ part rows c.feature a e order
  lent_is = ap (λ w. stretch (c.feature * rows + a) w order) width
    where
      width : c.feature * rows + e - (c.feature * rows + a) ≡ e - a
      width = omega arith

  pub split_done : (f f' : List Bool) (s : Sides) → length f ≡ flags → PassDone (element_in features values targets weights counts) c lent f f' s
      → SplitDone rows a e (element_in features values targets weights counts) c order f' s
  split_done f f' s m d =
      record {
        within = omega (arith, d.within, ap length lent_is, part-long rows features c.feature a e order q.long q.known q.ordered q.high);
        sides = d.sides ∙ ap (sides_of (element_in features values targets weights counts) c) lent_is;
        marks = subst (λ z. Every (λ r. flagged z r ≡ goes (element_in features values targets weights counts) c r) (part rows c.feature a e order))
            (sym (d.flags ∙ ap (marked (goes (element_in features values targets weights counts) c) f) lent_is))
            (marked-right (goes (element_in features values targets weights counts) c) (part rows c.feature a e order) f
            (every-imp _ _ (λ r b. omega (arith, b, m, q.flag_room)) (part rows c.feature a e order) (q.below c.feature q.known)));
      }

-- ---- the partition by its flags

pub columns-ask : (rows features a e : ℕ) (values targets weights : List Float) (counts : List ℕ) (c : Cut) (order : List ℕ) (n scratch flags : ℕ)
    → SplitAsks rows features a e values targets weights counts c order n flags → rows ≤ scratch → ColumnsAsk rows features a e order scratch flags
columns-ask rows features a e values targets weights counts c order n scratch flags q room =
    record {
      long = q.long;
      ordered = q.ordered;
      high = q.high;
      room = omega (arith, room, q.high);
      below = λ k h. every-imp _ _ (λ r b. omega (arith, b, q.flag_room)) (part rows k a e order) (q.below k h);
    }

module _ (rows features a e : ℕ) (values targets weights : List Float) (counts : List ℕ) (c : Cut) (before after : List ℕ) (flags : List Bool) (s : Sides) (n : ℕ)
    (q : SplitAsks rows features a e values targets weights counts c before n (length flags))
    (d : SplitDone rows a e (element_in features values targets weights counts) c before flags s) (w : after ≡ parted_columns rows a e (flagged flags) features before) where
  -- the rows
  abbrev el : ℕ → Element
  el = element_in features values targets weights counts

  -- by the flags, or by their test
  columns : after ≡ parted_columns rows a e (goes el c) features before
  columns =
      w ∙ in-same rows a e (λ k. parted (flagged flags)) (λ k. parted (goes el c)) before features q.ordered q.high q.long (parted-keeps (goes el c) features (e - a))
      (λ k u. marked-parted (goes el c) flags (part rows c.feature a e before) (part rows k a e before) (q.alike k u) d.marks)

  pub split-long : length after ≡ length before
  split-long = ap length columns ∙ in-long rows a e (λ k. parted (goes el c)) before q.ordered q.high features q.long (parted-keeps (goes el c) features (e - a))

  -- what lies beside the node's rows
  pub split-beside : (k b f : ℕ) → (f ≤ a) ⊎ (e ≤ b) → b ≤ f → f ≤ rows → part rows k b f after ≡ part rows k b f before
  split-beside k b f x o h =
      ap (part rows k b f) columns ∙ in-beside rows a e (λ k. parted (goes el c)) before q.ordered q.high features q.long (parted-keeps (goes el c) features (e - a)) k b f x o h

  split-here : (k : ℕ) → k < features → part rows k a e after ≡ parted (goes el c) (part rows k a e before)
  split-here k h = ap (part rows k a e) columns ∙ in-here rows a e (λ k. parted (goes el c)) before q.ordered q.high features q.long (parted-keeps (goes el c) features (e - a)) k h

  -- every column has as many rows of the true side
  true-rows : (k : ℕ) → k < features → length (keep (goes el c) (part rows k a e before)) ≡ s.rows
  true-rows k h =
      sym (alike-length _ _ (alike-keep (goes el c) (part rows c.feature a e before) (part rows k a e before) (q.alike k h))) ∙ sym (ap (λ (z : Sides). z.rows) d.sides)

  split-inside : a + s.rows ≤ e
  split-inside = omega (arith, d.within, q.ordered)

  pub true-part : (k : ℕ) → k < features → part rows k a (a + s.rows) after ≡ keep (goes el c) (part rows k a e before)
  true-part k h =
      part_in rows k a e a (a + s.rows) after (omega arith) split-inside (omega arith)
      ∙ (λ i. stretch (nothing i) (some i) (split-here k h i)) ∙ take_at (keep (goes el c) (part rows k a e before)) (keep (fails (goes el c)) (part rows k a e before)) s.rows (true-rows k h)
    where
      nothing : a - a ≡ 0
      nothing = omega arith

      some : a + s.rows - a ≡ s.rows
      some = omega arith

  pub false-part : (k : ℕ) → k < features → part rows k (a + s.rows) e after ≡ keep (fails (goes el c)) (part rows k a e before)
  false-part k h =
      part_in rows k a e (a + s.rows) e after (omega arith) (omega arith) split-inside
      ∙ (λ i. stretch (some i) (e - (a + s.rows)) (split-here k h i))
      ∙ ap (take (e - (a + s.rows))) (drop_at (keep (goes el c) (part rows k a e before)) (keep (fails (goes el c)) (part rows k a e before)) s.rows (true-rows k h))
      ∙ take_all (e - (a + s.rows)) (keep (fails (goes el c)) (part rows k a e before)) rest
    where
      some : a + s.rows - a ≡ s.rows
      some = omega arith

      rest : length (keep (fails (goes el c)) (part rows k a e before)) ≤ e - (a + s.rows)
      rest = omega (arith, keep-both (goes el c) (part rows k a e before), true-rows k h, part-long rows features k a e before q.long h q.ordered q.high)

  -- rows stay rows, wherever the node's lie among the first n
  pub split-every : (Q : ℕ → Type 0) (k n : ℕ) → k < features → e ≤ n → n ≤ rows → Every Q (part rows k 0 n before) → Every Q (part rows k 0 n after)
  split-every Q k n h g w z =
      subst (Every Q) (sym (part_join rows k 0 a n after (omega arith) (omega (arith, q.ordered)) ∙ ap (λ l. part rows k 0 a after ++ l) (part_join rows k a e n after q.ordered g)))
      (every_append Q (part rows k 0 a after) (part rows k a e after ++ part rows k e n after)
      (subst (Every Q) (sym (split-beside k 0 a (inl (omega arith)) (omega arith) (omega (arith, q.ordered, q.high))))
      (part-every Q rows k 0 n 0 a before (omega arith) (omega (arith, q.ordered)) (omega arith) z))
      (every_append Q (part rows k a e after) (part rows k e n after)
      (subst (Every Q) (sym (split-here k h)) (every_append Q (keep (goes el c) (part rows k a e before)) (keep (fails (goes el c)) (part rows k a e before))
      (every-keep Q (goes el c) _ mine) (every-keep Q (fails (goes el c)) _ mine)))
      (subst (Every Q) (sym (split-beside k e n (inr (omega arith)) g w)) (part-every Q rows k 0 n e n before (omega arith) (omega arith) g z))))
    where
      mine : Every Q (part rows k a e before)
      mine = part-every Q rows k 0 n a e before (omega arith) g q.ordered z
