-- Trees laid out as a forest's table, one after another, with where each starts: what is written so is read back, and is a good table if its trees are good. Assumes nothing.
use Prim.Native.Nat.{ℕ, zero, suc, ◌+◌, ◌-◌, ◌<◌, ◌≤◌, min}
use Rattle.std.proofs.Math.Nat.{add-zero}
use Rattle.std.proofs.Common.{zero-add, add_assoc, not-suc-le-zero, le_of_suc-le-suc, ◌∙◌, subst, append_assoc, length-append, length-drop, drop-cons, get_or-take, get_or-drop, drop-drop, take_at, length-take-le, lt→ltb, le→leb, ltb→lt, leb→le}
use native.Mathlib.Omega.{arith}
use Rattle.std.specs.Prelude.{◌≡◌, refl, Bool, true, ◌&&◌, List, [], ◌∷◌, ◌++◌, map, take, drop, T, leb, ltb, eqb}
use Rattle.std.proofs.Math.Path.{sym, ap}
use Rattle.std.proofs.Math.ListN.{length, get_or}
use Rattle.std.proofs.lemmas.List.{length-map}
use Rattle.std.proofs.Math.Seq.{get_or-append_seam}
use Rattle.std.proofs.Math.Dec.{eqb→eq, eqb_refl}
use Rattle.std.specs.Float.{nan}
use Rattle.std.specs.Float.Ieee.Fits.{and_l, and_r, and_i}
use Rattle.rules.specs.Words.{from, every, along, along_from, stretch, front, joined, total}
use Rattle.rules.specs.Lent.{Columns, Entry, shortest, entry_at, entries_at, write_entries}
use Rattle.rules.specs.Table.{good_from, good_tree, tree_at, ForestTable, starts_good, trees_of, good_forest, starts_enough}
use Rattle.rules.specs.Reading.{no_entry}
use Rattle.rules.specs.Model.{starts_of}
use Rattle.lemmas.specs.Lists.{is_true, Every, each, every-imp, same-default, length_from, rising-at}

-- ---- entries

pub entries-long : (c : Columns) (a n : ℕ) → length (entries_at c a n) ≡ n
unfolding entries_at
entries-long c a n = length-map (from a n) (entry_at c) ∙ length_from a n

-- a column of rows, and more behind it
map_at {ℓ} : {A : Type ℓ} (f : Entry → A) (rs : List Entry) (x : List A) (k : ℕ) (d : A) → k < length rs → get_or (map f rs ++ x) k d ≡ f (get_or rs k no_entry)
map_at f [] x k d h = absurd (not-suc-le-zero h)
map_at f (r ∷ rs) x zero d h = refl
map_at f (r ∷ rs) x (suc k) d h = map_at f rs x k d (le_of_suc-le-suc h)

pub entry-written : (rs : List Entry) (c : Columns) (k : ℕ) → k < length rs → entry_at (write_entries rs c) k ≡ get_or rs k no_entry
entry-written rs c k h =
    λ i.
    record {
      value = one (λ r. r.value) c.value nan i;
      feature = one (λ r. r.feature) c.feature 0 i;
      threshold = one (λ r. r.threshold) c.threshold nan i;
      score = one (λ r. r.score) c.score nan i;
      true_child = one (λ r. r.true_child) c.true_child 0 i;
      false_child = one (λ r. r.false_child) c.false_child 0 i;
    }
  where
    one : {A : Type 0} (f : Entry → A) (old : List A) (d : A) → get_or (front (map f rs) old) k d ≡ f (get_or rs k no_entry)
    one f old d = map_at f rs (drop (length (map f rs)) old) k d h

-- a stretch of what was written
pub entries-written : (all : List Entry) (c : Columns) (mid pre post : List Entry) → all ≡ pre ++ (mid ++ post) → entries_at (write_entries all c) (length pre) (length mid) ≡ mid
unfolding entries_at from
entries-written all c [] pre post e = refl
entries-written all c (x ∷ mid) pre post e =
    λ i. (entry-written all c (length pre) inside ∙ ap (λ l. get_or l (length pre) no_entry) e ∙ get_or-append_seam pre x (mid ++ post) no_entry) i
    ∷ rest (entries-written all c mid (pre ++ (x ∷ [])) post (e ∙ sym (append_assoc pre (x ∷ []) (mid ++ post)))) i
  where
    short : (n p m : ℕ) → n ≡ p + suc m → p < n
    short n p m h = omega arith

    inside : length pre < length all
    inside = short (length all) (length pre) (length (mid ++ post)) (ap length e ∙ length-append pre (x ∷ (mid ++ post)))

    one : (n : ℕ) → n + 1 ≡ suc n
    one n = omega arith

    rest : map (entry_at (write_entries all c)) (from (length (pre ++ (x ∷ []))) (length mid)) ≡ mid → map (entry_at (write_entries all c)) (from (suc (length pre)) (length mid)) ≡ mid
    rest h = ap (λ n. map (entry_at (write_entries all c)) (from n (length mid))) (sym (length-append pre (x ∷ []) ∙ one (length pre))) ∙ h

-- ---- lengths stay

pub front_length {ℓ} : {A : Type ℓ} (new old : List A) → length new ≤ length old → length (front new old) ≡ length old
front_length new old h = length-append new (drop (length new) old) ∙ ap (λ n. length new + n) (length-drop (length new) old) ∙ back (length new) (length old) h
  where
    back : (a b : ℕ) → a ≤ b → a + (b - a) ≡ b
    back a b h = omega arith

pub shortest-stays : (rs : List Entry) (c : Columns) → length rs ≤ shortest c → shortest (write_entries rs c) ≡ shortest c
shortest-stays rs c h =
    λ i. min (one (λ r. r.value) c.value (omega arith) i) (min (one (λ r. r.feature) c.feature (omega arith) i) (min (one (λ r. r.threshold) c.threshold (omega arith) i)
    (min (one (λ r. r.score) c.score (omega arith) i) (min (one (λ r. r.true_child) c.true_child (omega arith) i) (one (λ r. r.false_child) c.false_child (omega arith) i)))))
  where
    one : {A : Type 0} (f : Entry → A) (old : List A) → length rs ≤ length old → length (front (map f rs) old) ≡ length old
    one f old k = front_length (map f rs) old (subst (λ n. n ≤ length old) (sym (length-map rs f)) k)

-- ---- starts

pub first-laid : (a : ℕ) (ts : List (List Entry)) (x : List ℕ) (d : ℕ) → get_or (starts_of a ts ++ x) 0 d ≡ a
unfolding starts_of
first-laid a [] x d = refl
first-laid a (t ∷ ts) x d = refl

pub last-laid : (a : ℕ) (ts : List (List Entry)) (x : List ℕ) (d : ℕ) → get_or (starts_of a ts ++ x) (length ts) d ≡ a + total length ts
unfolding starts_of total
last-laid a [] x d = sym (add-zero a)
last-laid a (t ∷ ts) x d = last-laid (a + length t) ts x d ∙ add_assoc a (length t) (total length ts)

-- each starts where the one before it ends
pub next-laid : (a : ℕ) (ts : List (List Entry)) (x : List ℕ) (t : ℕ) → t < length ts → get_or (starts_of a ts ++ x) (suc t) 0 ≡ get_or (starts_of a ts ++ x) t 0 + get_or (map length ts) t 0
unfolding starts_of
next-laid a [] x t h = absurd (not-suc-le-zero h)
next-laid a (u ∷ ts) x zero h = first-laid (a + length u) ts x 0
next-laid a (u ∷ ts) x (suc t) h = next-laid (a + length u) ts x t (le_of_suc-le-suc h)

pub starts-laid : (a : ℕ) (ts : List (List Entry)) → length (starts_of a ts) ≡ suc (length ts)
unfolding starts_of
starts-laid a [] = refl
starts-laid a (t ∷ ts) = ap suc (starts-laid (a + length t) ts)

-- ---- trees

abbrev pub laid_out : List (List Entry) → List Entry
laid_out ts = joined (λ t. t) ts

-- all the nodes
pub length-laid : (ts : List (List Entry)) → length (laid_out ts) ≡ total length ts
unfolding joined total
length-laid [] = refl
length-laid (t ∷ ts) = length-append t (laid_out ts) ∙ ap (λ n. length t + n) (length-laid ts)

trees-from : (all : List Entry) (c : Columns) (starts : List ℕ) (x : List ℕ) (ts : List (List Entry)) (k : ℕ) (pre : List Entry) → all ≡ pre ++ laid_out ts
    → drop k starts ≡ starts_of (length pre) ts ++ x
    → map (tree_at (write_entries all c) starts) (from k (length ts)) ≡ ts
unfolding from joined starts_of tree_at
trees-from all c starts x [] k pre e s = refl
trees-from all c starts x (t ∷ ts) k pre e s = λ i. head i ∷ trees-from all c starts x ts (suc k) (pre ++ t) (e ∙ sym (append_assoc pre t (laid_out ts))) next i
  where
    plus_one : (k : ℕ) → k + 1 ≡ suc k
    plus_one k = omega arith

    next : drop (suc k) starts ≡ starts_of (length (pre ++ t)) ts ++ x
    next = ap (λ n. drop n starts) (sym (plus_one k)) ∙ sym (drop-drop 1 k starts) ∙ ap (drop 1) s ∙ ap (λ n. starts_of n ts ++ x) (sym (length-append pre t))

    here : get_or starts k 0 ≡ length pre
    here = ap (λ n. get_or starts n 0) (sym (add-zero k)) ∙ sym (get_or-drop k starts 0 0) ∙ ap (λ l. get_or l 0 0) s

    there : get_or starts (suc k) 0 ≡ length pre + length t
    there =
        ap (λ n. get_or starts n 0) (sym (add-zero (suc k))) ∙ sym (get_or-drop (suc k) starts 0 0) ∙ ap (λ l. get_or l 0 0) next
        ∙ first-laid (length (pre ++ t)) ts x 0 ∙ length-append pre t

    between : (a b : ℕ) → a + b - a ≡ b
    between a b = omega arith

    head : entries_at (write_entries all c) (get_or starts k 0) (get_or starts (suc k) 0 - get_or starts k 0) ≡ t
    head =
        (λ i. entries_at (write_entries all c) (here i) (there i - here i))
        ∙ ap (λ n. entries_at (write_entries all c) (length pre) n) (between (length pre) (length t))
        ∙ entries-written all c t pre (laid_out ts) e

-- the table of trees that are laid out in such rooms
abbrev pub table_laid : ℕ → List (List Entry) → Columns → List ℕ → ForestTable
table_laid trees ts c starts = record { trees = trees; nodes = write_entries (laid_out ts) c; starts = front (starts_of 0 ts) starts }

pub trees-laid : (c : Columns) (starts : List ℕ) (ts : List (List Entry)) (trees : ℕ) → length ts ≡ trees → trees_of (table_laid trees ts c starts) ≡ ts
unfolding trees_of
trees-laid c starts ts trees h =
    ap (λ n. map (tree_at (write_entries (laid_out ts) c) (front (starts_of 0 ts) starts)) (from 0 n)) (sym h)
    ∙ trees-from (laid_out ts) c (front (starts_of 0 ts) starts) (drop (length (starts_of 0 ts)) starts) ts 0 [] refl refl

-- ---- good trees make a good table

abbrev Some : List (List Entry) → Type 0
Some ts = Every (λ (t : List Entry). 0 < length t) ts

rises-on : (a b : ℕ) (ts : List (List Entry)) → a < b → Some ts → T (along_from ltb a (starts_of b ts))
unfolding along_from starts_of
rises-on a b [] h e = and_i (ltb a b) true (lt→ltb a b h) tt
rises-on a b (t ∷ ts) h e = and_i (ltb a b) _ (lt→ltb a b h) (rises-on b (b + length t) ts (more b (length t) e.0) e.1)
  where
    more : (b n : ℕ) → 0 < n → b < b + n
    more b n h = omega arith

starts-rise : (a : ℕ) (ts : List (List Entry)) → Some ts → T (along ltb (starts_of a ts))
unfolding along along_from starts_of
starts-rise a [] e = tt
starts-rise a (t ∷ ts) e = rises-on a (a + length t) ts (more a (length t) e.0) e.1
  where
    more : (b n : ℕ) → 0 < n → b < b + n
    more b n h = omega arith

-- a good tree has a node
good-some : (features : ℕ) (t : List Entry) → T (good_tree features t) → 0 < length t
unfolding good_tree
good-some features t g = ltb→lt 0 (length t) (and_l (ltb 0 (length t)) (good_from features (length t) 0 t) g)

eq_test : (a b : ℕ) → a ≡ b → T (eqb a b)
eq_test a b q = subst (λ x. T (eqb a x)) q (eqb_refl a)

pub good-laid : (features trees : ℕ) (c : Columns) (starts : List ℕ) (ts : List (List Entry)) → length ts ≡ trees → T (every (good_tree features) ts)
    → length (laid_out ts) ≤ shortest c → T (good_forest features (table_laid trees ts c starts))
unfolding good_forest starts_good
good-laid features trees c starts ts n e room =
    and_i (starts_good (table_laid trees ts c starts)) (every (good_tree features) (trees_of (table_laid trees ts c starts)))
    (and_i (eqb (get_or s 0 1) 0) (along ltb (take (suc trees) s) && leb (get_or s trees (suc top)) top)
    (eq_test (get_or s 0 1) 0 (first-laid 0 ts _ 1))
    (and_i (along ltb (take (suc trees) s)) (leb (get_or s trees (suc top)) top)
    (subst (λ l. T (along ltb l)) (sym (take_at (starts_of 0 ts) _ (suc trees) (starts-laid 0 ts ∙ ap suc n)))
    (starts-rise 0 ts (every-imp _ _ (good-some features) ts (each (good_tree features) ts e))))
    (le→leb (get_or s trees (suc top)) top
    (subst (λ m. m ≤ top) (sym (ap (λ k. get_or s k (suc top)) (sym n) ∙ last-laid 0 ts _ (suc top) ∙ zero-add (total length ts) ∙ sym (length-laid ts)))
    (subst (λ m. length (laid_out ts) ≤ m) (sym (shortest-stays (laid_out ts) c room)) room)))))
    (subst (λ l. T (every (good_tree features) l)) (sym (trees-laid c starts ts trees n)) e)
  where
    s : List ℕ
    s = front (starts_of 0 ts) starts

    top : ℕ
    top = shortest (write_entries (laid_out ts) c)

-- ---- what the starts of a good table say

module _ (c : Columns) (starts : List ℕ) where
  abbrev Rises : ℕ → ℕ → Type 0
  Rises k m = (t : ℕ) → k ≤ t → t < k + m → get_or starts t 0 ≤ get_or starts (suc t) 0

  rises-later : (k m : ℕ) → Rises k (suc m) → Rises (suc k) m
  rises-later k m rise t a b = rise t (omega (arith, a)) (omega (arith, b))

  tree-long : (k m : ℕ) → Rises k (suc m) → get_or starts k 0 + length (tree_at c starts k) ≡ get_or starts (suc k) 0
  unfolding tree_at
  tree-long k m rise =
      ap (λ n. get_or starts k 0 + n) (entries-long c (get_or starts k 0) (get_or starts (suc k) 0 - get_or starts k 0)) ∙ back (get_or starts k 0) (get_or starts (suc k) 0) (rise k (omega arith) (omega arith))
    where
      back : (a b : ℕ) → a ≤ b → a + (b - a) ≡ b
      back a b h = omega arith

  shift : (k m : ℕ) → suc k + m ≡ k + suc m
  shift k m = omega arith

  nodes-between : (k m : ℕ) → Rises k m → get_or starts k 0 + total length (map (tree_at c starts) (from k m)) ≡ get_or starts (k + m) 0
  unfolding total from
  nodes-between k zero rise = add-zero (get_or starts k 0) ∙ ap (λ n. get_or starts n 0) (sym (add-zero k))
  nodes-between k (suc m) rise =
      sym (add_assoc (get_or starts k 0) (length (tree_at c starts k)) _) ∙ ap (λ n. n + total length (map (tree_at c starts) (from (suc k) m))) (tree-long k m rise)
      ∙ nodes-between (suc k) m (rises-later k m rise) ∙ ap (λ n. get_or starts n 0) (shift k m)

  starts-between : (k m : ℕ) → k + m < length starts → Rises k m → starts_of (get_or starts k 0) (map (tree_at c starts) (from k m)) ≡ stretch k (suc m) starts
  unfolding starts_of from
  starts-between k zero h rise = sym (ap (take 1) (drop-cons starts k 0 (omega (arith, h))))
  starts-between k (suc m) h rise =
      ap (λ l. get_or starts k 0 ∷ l)
      (ap (λ n. starts_of n (map (tree_at c starts) (from (suc k) m))) (tree-long k m rise) ∙ starts-between (suc k) m (omega (arith, h)) (rises-later k m rise))
      ∙ sym (ap (take (suc (suc m))) (drop-cons starts k 0 (omega (arith, h))))

module _ (F : ForestTable) (enough : T (starts_enough F)) (good : T (starts_good F)) where
  long : suc F.trees ≤ length F.starts
  long = leb→le (suc F.trees) (length F.starts) enough

  abbrev reach : Bool
  reach = leb (get_or F.starts F.trees (suc (shortest F.nodes))) (shortest F.nodes)

  abbrev up : Bool
  up = along ltb (take (suc F.trees) F.starts)

  first : get_or F.starts 0 0 ≡ 0
  unfolding starts_good
  first = same-default F.starts 0 0 1 (omega (arith, long)) ∙ eqb→eq (get_or F.starts 0 1) 0 (and_l (eqb (get_or F.starts 0 1) 0) (up && reach) good)

  rising : up ≡ true
  unfolding starts_good
  rising = is_true up (and_l up reach (and_r (eqb (get_or F.starts 0 1) 0) (up && reach) good))

  rises : Rises F.nodes F.starts 0 F.trees
  rises t a h =
      subst (λ x. x ≤ get_or F.starts (suc t) 0) (get_or-take (suc F.trees) F.starts t 0 (omega (arith, h)))
      (subst (λ y. get_or (take (suc F.trees) F.starts) t 0 ≤ y) (get_or-take (suc F.trees) F.starts (suc t) 0 (omega (arith, h)))
      (below _ _ (rising-at (take (suc F.trees) F.starts) rising t (suc t) (omega arith)
      (subst (λ n. suc t < n) (sym (length-take-le (suc F.trees) F.starts long)) (omega (arith, h))))))
    where
      below : (a b : ℕ) → a < b → a ≤ b
      below a b h = omega arith

  -- it has as many nodes as the last one says
  pub nodes-of : total length (trees_of F) ≡ get_or F.starts F.trees 0
  unfolding trees_of
  nodes-of =
      sym (zero-add (total length (trees_of F))) ∙ ap (λ n. n + total length (trees_of F)) (sym first)
      ∙ nodes-between F.nodes F.starts 0 F.trees rises ∙ ap (λ n. get_or F.starts n 0) (zero-add F.trees)

  -- and they are those of its trees
  pub starts-of : starts_of 0 (trees_of F) ≡ take (suc F.trees) F.starts
  unfolding trees_of
  starts-of = ap (λ n. starts_of n (trees_of F)) (sym first) ∙ starts-between F.nodes F.starts 0 F.trees (omega (arith, long)) rises
