-- A node column is the nodes' field, then what the room held before. Assumes nothing.
use Rattle.std.specs.Prelude.{ℕ, zero, suc, ◌+◌, ◌<◌, ◌≤◌, ◌≡◌, length, get_or, set, drop}
use Rattle.std.proofs.Common.{not-suc-le-zero, le_of_suc-le-suc, arith, sym, ◌∙◌, subst, length-set, length-append, drop-cons}
use Rattle.std.proofs.Math.Path.{refl, ap}
use mathlib.Core.List.{List, [], ◌∷◌, ◌++◌, map, append_assoc}
use Rattle.std.proofs.lemmas.List.{length-map}
use Rattle.rules.specs.Words.{front}
use Rattle.rules.specs.Lent.{Columns, Entry, write_entries}
use Rattle.rules.specs.Totals.{value_of}
use Rattle.rules.specs.Growth.{TreeNode}
use Rattle.rules.specs.Fit.{entry_of, entries, write_behind}
use Rattle.node_entries.specs.Entries.{NodeRoom}

module _ {A : Type 0} (f : TreeNode → A) where
  -- the nodes' field, then what the column held
  abbrev pub column_of : List TreeNode → List A → List A
  column_of ns old = map f ns ++ drop (length ns) old

  set-map : (ns : List TreeNode) (i : ℕ) (x : TreeNode) (t : List A) → i < length ns → set (map f ns ++ t) i (f x) ≡ map f (set ns i x) ++ t
  set-map [] i x t h = absurd (not-suc-le-zero h)
  set-map (n ∷ ns) zero x t h = refl
  set-map (n ∷ ns) (suc i) x t h = ap (λ r. f n ∷ r) (set-map ns i x t (le_of_suc-le-suc h))

  -- a node is changed where it stands
  pub store-node : (ns : List TreeNode) (old : List A) (i : ℕ) (x : TreeNode) → i < length ns → set (column_of ns old) i (f x) ≡ column_of (set ns i x) old
  store-node ns old i x h = set-map ns i x (drop (length ns) old) h ∙ ap (λ n. map f (set ns i x) ++ drop n old) (sym (length-set ns i x))

  set-end : (ns : List TreeNode) (a b : A) (t : List A) → set (map f ns ++ (b ∷ t)) (length ns) a ≡ map f ns ++ (a ∷ t)
  set-end [] a b t = refl
  set-end (n ∷ ns) a b t = ap (λ r. f n ∷ r) (set-end ns a b t)

  map-end : (ns : List TreeNode) (x : TreeNode) (t : List A) → map f ns ++ (f x ∷ t) ≡ map f (ns ++ (x ∷ [])) ++ t
  map-end [] x t = refl
  map-end (n ∷ ns) x t = ap (λ r. f n ∷ r) (map-end ns x t)

  -- a node is added
  pub add-node : (ns : List TreeNode) (old : List A) (d : A) (x : TreeNode) → length ns < length old → set (column_of ns old) (length ns) (f x) ≡ column_of (ns ++ (x ∷ [])) old
  add-node ns old d x h =
      ap (λ t. set (map f ns ++ t) (length ns) (f x)) (drop-cons old (length ns) d h)
      ∙ set-end ns (f x) (get_or old (length ns) d) (drop (suc (length ns)) old)
      ∙ map-end ns x (drop (suc (length ns)) old)
      ∙ ap (λ n. map f (ns ++ (x ∷ [])) ++ drop n old) (more (length ns) (length (ns ++ (x ∷ []))) (length-append ns (x ∷ [])))
    where
      more : (n m : ℕ) → m ≡ n + 1 → suc n ≡ m
      more n m h = omega arith

  -- a node is changed, and two are added
  pub three : (ns : List TreeNode) (old : List A) (d : A) (i : ℕ) (a b c : TreeNode) {x y z : A} → x ≡ f a → y ≡ f b → z ≡ f c → i < length ns → length ns + 2 ≤ length old
      → set (set (set (column_of ns old) i x) (length ns) y) (length ns + 1) z ≡ column_of (set ns i a ++ (b ∷ c ∷ [])) old
  three ns old d i a b c {x} {y} {z} ex ey ez hi ho =
      ap (λ u. set (set (set (column_of ns old) i u) (length ns) y) (length ns + 1) z) ex
      ∙ ap (λ u. set (set u (length ns) y) (length ns + 1) z) (store-node ns old i a hi)
      ∙ ap (λ u. set (set (column_of (set ns i a) old) (length ns) u) (length ns + 1) z) ey
      ∙ ap (λ n. set (set (column_of (set ns i a) old) n (f b)) (length ns + 1) z) (sym (length-set ns i a))
      ∙ ap (λ u. set u (length ns + 1) z) (add-node (set ns i a) old d b (subst (λ n. n < length old) (sym (length-set ns i a)) (omega arith)))
      ∙ ap (λ u. set (column_of (set ns i a ++ (b ∷ [])) old) (length ns + 1) u) ez
      ∙ ap (λ n. set (column_of (set ns i a ++ (b ∷ [])) old) n (f c)) (sym more)
      ∙ add-node (set ns i a ++ (b ∷ [])) old d c (subst (λ n. n < length old) (sym more) (omega arith))
      ∙ ap (λ u. column_of u old) (append_assoc (set ns i a) (b ∷ []) (c ∷ []))
    where
      more : length (set ns i a ++ (b ∷ [])) ≡ length ns + 1
      more = length-append (set ns i a) (b ∷ []) ∙ ap (λ n. n + 1) (length-set ns i a)

-- ---- the six columns

-- a node's entry
abbrev pub entry_for : TreeNode → Entry
entry_for n = entry_of (value_of n.totals) n.kind

-- they hold the nodes, and past them what they held
pub record NodesIn (old : Columns) (ns : List TreeNode) (c : Columns) : Type 0 where
  pub value : c.value ≡ column_of (λ n. (entry_for n).value) ns old.value
  pub feature : c.feature ≡ column_of (λ n. (entry_for n).feature) ns old.feature
  pub threshold : c.threshold ≡ column_of (λ n. (entry_for n).threshold) ns old.threshold
  pub score : c.score ≡ column_of (λ n. (entry_for n).score) ns old.score
  pub truechild : c.true_child ≡ column_of (λ n. (entry_for n).true_child) ns old.true_child
  pub falsechild : c.false_child ≡ column_of (λ n. (entry_for n).false_child) ns old.false_child

module _ {A : Type 0} (f : Entry → A) where
  mapped : (ns : List TreeNode) → map (λ n. f (entry_for n)) ns ≡ map f (entries ns)
  unfolding entries
  mapped [] = refl
  mapped (n ∷ ns) = ap (λ r. f (entry_for n) ∷ r) (mapped ns)

  column-written : (ns : List TreeNode) (old : List A) → column_of (λ n. f (entry_for n)) ns old ≡ front (map f (entries ns)) old
  column-written ns old = λ i. mapped ns i ++ drop ((sym (length-map ns (λ n. f (entry_for n))) ∙ ap length (mapped ns)) i) old

nodes-written : (old c : Columns) (ns : List TreeNode) → NodesIn old ns c → c ≡ write_entries (entries ns) old
nodes-written old c ns h = λ i.
    record {
      value = (h.value ∙ column-written (λ e. e.value) ns old.value) i;
      feature = (h.feature ∙ column-written (λ e. e.feature) ns old.feature) i;
      threshold = (h.threshold ∙ column-written (λ e. e.threshold) ns old.threshold) i;
      score = (h.score ∙ column-written (λ e. e.score) ns old.score) i;
      true_child = (h.truechild ∙ column-written (λ e. e.true_child) ns old.true_child) i;
      false_child = (h.falsechild ∙ column-written (λ e. e.false_child) ns old.false_child) i;
    }

-- ---- the eight columns

-- they hold the nodes, and past them what they held
pub record RoomIn (old : NodeRoom) (ns : List TreeNode) (c : NodeRoom) : Type 0 where
  pub nodes : NodesIn old.nodes ns c.nodes
  pub count : c.behind.count ≡ column_of (λ n. n.count) ns old.behind.count
  pub mass : c.behind.mass ≡ column_of (λ n. n.totals.mass) ns old.behind.mass

-- as the rules write them
abbrev pub write_nodes : List TreeNode → NodeRoom → NodeRoom
write_nodes ns c = record { nodes = write_entries (entries ns) c.nodes; behind = write_behind ns c.behind }

pub room-written : (old c : NodeRoom) (ns : List TreeNode) → RoomIn old ns c → c ≡ write_nodes ns old
room-written old c ns h = λ i.
    record {
      nodes = nodes-written old.nodes c.nodes ns h.nodes i;
      behind = record { count = (h.count ∙ fronted (λ n. n.count) old.behind.count) i; mass = (h.mass ∙ fronted (λ n. n.totals.mass) old.behind.mass) i };
    }
  where
    fronted : {A : Type 0} (f : TreeNode → A) (l : List A) → column_of f ns l ≡ front (map f ns) l
    fronted f l = ap (λ n. map f ns ++ drop n l) (sym (length-map ns f))
