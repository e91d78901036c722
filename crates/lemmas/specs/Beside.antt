-- The two columns beside a table's six, counts and masses: what a fit writes of its nodes is read back, of a forest at each tree's own places, and what lies beyond stays.
-- Assumes nothing.
use Rattle.std.specs.Prelude.{ℕ, zero, suc, ◌+◌, ◌-◌, ◌<◌, ◌≡◌, refl, List, [], ◌∷◌, ◌++◌, map, length, get_or, take, drop}
use Rattle.std.proofs.Common.{not-suc-le-zero, le_of_suc-le-suc, arith, sym, ap, ◌∙◌, append_assoc, length-append, take_at, drop_at}
use Rattle.std.proofs.lemmas.List.{map-append, length-map}
use Rattle.std.proofs.Math.Seq.{drop-append_seam}
use Rattle.rules.specs.Words.{stretch, front, joined}
use Rattle.rules.specs.Lent.{Behind, behind_of}
use Rattle.rules.specs.Totals.{value_of}
use Rattle.rules.specs.Growth.{TreeNode}
use Rattle.rules.specs.Fit.{Tree, entry_of, entries, write_behind}
use Rattle.rules.specs.Forest.{starts_from, forest_entries, forest_nodes}
use Rattle.lemmas.specs.Nodes.{behind_each}
use Rattle.lemmas.specs.Tables.{length-entries}
use Rattle.lemmas.specs.Written.{first-start}

-- n places of both columns, from place a on
abbrev pub behind_at : Behind → ℕ → ℕ → Behind
behind_at b a n = behind_of (stretch a n b.count) (stretch a n b.mass)

-- those of tree t, between two starts
abbrev pub behind_tree : Behind → List ℕ → ℕ → Behind
behind_tree b starts t = behind_at b (get_or starts t 0) (get_or starts (suc t) 0 - get_or starts t 0)

-- those past the first n
abbrev pub behind_past : ℕ → Behind → Behind
behind_past n b = behind_of (drop n b.count) (drop n b.mass)

-- ---- one tree, of n nodes

pub behind-written : (ns : List TreeNode) (b : Behind) (n : ℕ) → n ≡ length ns → behind_at (write_behind ns b) 0 n ≡ behind_each ns
behind-written ns b n e = λ i. behind_of (column (λ (x : TreeNode). x.count) b.count i) (column (λ (x : TreeNode). x.totals.mass) b.mass i)
  where
    column : {A : Type 0} (f : TreeNode → A) (old : List A) → take n (front (map f ns) old) ≡ map f ns
    column f old = take_at (map f ns) _ n (length-map ns f ∙ sym e)

pub behind-stays : (ns : List TreeNode) (b : Behind) (n : ℕ) → n ≡ length ns → behind_past n (write_behind ns b) ≡ behind_past n b
behind-stays ns b n e = λ i. behind_of (column (λ (x : TreeNode). x.count) b.count i) (column (λ (x : TreeNode). x.totals.mass) b.mass i)
  where
    column : {A : Type 0} (f : TreeNode → A) (old : List A) → drop n (front (map f ns) old) ≡ drop n old
    column f old = drop_at (map f ns) _ n (length-map ns f ∙ sym e) ∙ ap (λ k. drop k old) (length-map ns f ∙ sym e)

-- ---- a forest

pub entries-append : (ns ms : List TreeNode) → entries (ns ++ ms) ≡ entries ns ++ entries ms
unfolding entries
entries-append [] ms = refl
entries-append (n ∷ ns) ms = ap (λ es. entry_of (value_of n.totals) n.kind ∷ es) (entries-append ns ms)

pub entries-joined : (ts : List Tree) → entries (forest_nodes ts) ≡ forest_entries ts
unfolding forest_nodes joined forest_entries entries
entries-joined [] = refl
entries-joined (t ∷ ts) = entries-append t.nodes (forest_nodes ts) ∙ ap (λ es. entries t.nodes ++ es) (entries-joined ts)

pub length-nodes : (ts : List Tree) → length (forest_nodes ts) ≡ length (forest_entries ts)
length-nodes ts = sym (length-entries (forest_nodes ts)) ∙ ap length (entries-joined ts)

-- of the trees' nodes, with something before them and something behind, those between two starts are one tree's
between-starts : {A : Type 0} (f : TreeNode → A) (ts : List Tree) (pre post : List A) (x : List ℕ) (t : ℕ) → t < length ts
    → stretch (get_or (starts_from (length pre) ts ++ x) t 0) (get_or (starts_from (length pre) ts ++ x) (suc t) 0 - get_or (starts_from (length pre) ts ++ x) t 0) (pre ++ (map f (forest_nodes ts) ++ post))
    ≡ get_or (map (λ (u : Tree). map f u.nodes) ts) t []
unfolding starts_from forest_nodes joined
between-starts f [] pre post x t h = absurd (not-suc-le-zero h)
between-starts f (u ∷ ts) pre post x zero h =
    ap (λ n. take (n - length pre) (drop (length pre) (pre ++ (map f (u.nodes ++ forest_nodes ts) ++ post)))) (first-start (length pre + length u.nodes) ts x 0)
    ∙ (λ i. take (wide (length pre) (length u.nodes) i) (drop-append_seam pre (joint i) i))
    ∙ take_at (map f u.nodes) _ (length u.nodes) (length-map u.nodes f)
  where
    wide : (a n : ℕ) → a + n - a ≡ n
    wide a n = omega arith

    joint : map f (u.nodes ++ forest_nodes ts) ++ post ≡ map f u.nodes ++ (map f (forest_nodes ts) ++ post)
    joint = ap (λ l. l ++ post) (map-append f u.nodes (forest_nodes ts)) ∙ append_assoc (map f u.nodes) (map f (forest_nodes ts)) post
between-starts f (u ∷ ts) pre post x (suc t) h =
    (λ i. stretch (get_or (starts_from (long i) ts ++ x) t 0) (get_or (starts_from (long i) ts ++ x) (suc t) 0 - get_or (starts_from (long i) ts ++ x) t 0) (joint i))
    ∙ between-starts f ts (pre ++ map f u.nodes) post x t (le_of_suc-le-suc h)
  where
    long : length pre + length u.nodes ≡ length (pre ++ map f u.nodes)
    long = ap (λ n. length pre + n) (sym (length-map u.nodes f)) ∙ sym (length-append pre (map f u.nodes))

    joint : pre ++ (map f (u.nodes ++ forest_nodes ts) ++ post) ≡ (pre ++ map f u.nodes) ++ (map f (forest_nodes ts) ++ post)
    joint =
        ap (λ l. pre ++ (l ++ post)) (map-append f u.nodes (forest_nodes ts)) ∙ ap (λ l. pre ++ l) (append_assoc (map f u.nodes) (map f (forest_nodes ts)) post)
        ∙ sym (append_assoc pre (map f u.nodes) (map f (forest_nodes ts) ++ post))

-- tree t's
pub tree-behind : (ts : List Tree) (b : Behind) (starts : List ℕ) (t : ℕ) → t < length ts
    → behind_tree (write_behind (forest_nodes ts) b) (front (starts_from 0 ts) starts) t ≡ get_or (map (λ (u : Tree). behind_each u.nodes) ts) t (behind_of [] [])
tree-behind ts b starts t h =
    (λ i. behind_of (column (λ (x : TreeNode). x.count) b.count i) (column (λ (x : TreeNode). x.totals.mass) b.mass i)) ∙ both ts t
  where
    s : List ℕ
    s = front (starts_from 0 ts) starts

    column : {A : Type 0} (f : TreeNode → A) (old : List A)
        → stretch (get_or s t 0) (get_or s (suc t) 0 - get_or s t 0) (front (map f (forest_nodes ts)) old) ≡ get_or (map (λ (u : Tree). map f u.nodes) ts) t []
    column f old = between-starts f ts [] _ _ t h

    both : (ts : List Tree) (t : ℕ) → behind_of (get_or (map (λ (u : Tree). (behind_each u.nodes).count) ts) t []) (get_or (map (λ (u : Tree). (behind_each u.nodes).mass) ts) t [])
        ≡ get_or (map (λ (u : Tree). behind_each u.nodes) ts) t (behind_of [] [])
    both [] t = refl
    both (u ∷ ts) zero = refl
    both (u ∷ ts) (suc t) = both ts t
