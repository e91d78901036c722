-- What the history of a growth is, over any way to choose cuts: every node as growth met it, in the order of the nodes' numbers. Each is searched from where the one before it left off, or
-- not searched at all; if its search found a cut it waits, and then is a split whose two children are the sides of that cut; otherwise it is a leaf. It says nothing of the depth, nor in
-- which order those that waited were split. Definitions, and how what is met grows by two. Assumes nothing.
use Rattle.std.specs.Prelude.{ℕ, zero, suc, ◌+◌, ◌<◌, ◌≡◌, ◌⊎◌, Bool, true, false, ◌&&◌, List, [], ◌∷◌, length, get_or, ltb, eqb}
use Rattle.std.proofs.Common.{arith, sym, subst, lt→ltb}
use Rattle.std.proofs.Math.Decide.{ℕ_discrete, dec_lt}
use Rattle.std.proofs.Math.Path.{refl, ap}
use Rattle.std.proofs.Math.Bool.{cond}
use Rattle.rules.specs.declared.Params.{Params}
use Rattle.rules.specs.declared.Cut.{Cut}
use Rattle.rules.specs.declared.Fork.{Fork}
use Rattle.rules.specs.declared.Kind.TheVariants.{Leaf, Split}
use Rattle.rules.specs.Draws.{Out, ok}
use Rattle.rules.specs.Search.{NodeRows, on_true, on_false, Found, no_cut, cut_found}
use Rattle.rules.specs.Growth.{TreeNode, Waiting, State, child, leaf_of, splitting, searchable}
use Rattle.lemmas.specs.Lists.{is_true, ltb_no, Every, Ordered}
use Rattle.lemmas.specs.Once.{eqb_yes, eqb_no}
use Rattle.lemmas.specs.Nodes.{no_node, kind_at, as_leaf}

-- a node as growth met it: its level and its rows, the node whose child it is, what its search found, and what was left to choose by before and after it.
-- The search of a node that is not searched found nothing and took nothing.
pub record Met (S : Type 0) : Type 0 where
  pub level : ℕ
  pub rows : NodeRows
  pub parent : ℕ
  pub found : Found
  pub before : S
  pub after : S

-- node k as it waits with its cut
abbrev pub waiting_at : {S : Type 0} → ℕ → Met S → Cut → Waiting
waiting_at k m c = record { number = k; level = m.level; node = m.rows; cut = c }

-- someone waits under number k
abbrev pub Awaits : ℕ → List Waiting → Type 0
Awaits k [] = ⊥
Awaits k (w ∷ ws) = (w.number ≡ k) ⊎ Awaits k ws

-- whether node k is searched; the root only if something is kept
abbrev pub asked : {S : Type 0} → Params → ℕ → Met S → Bool
asked P zero m = ltb 0 m.rows.count && searchable P m.level m.rows
asked P (suc k) m = searchable P m.level m.rows

-- what its search gave
abbrev pub Gave : {S : Type 0} → (S → NodeRows → Out (Found × S)) → Bool → Met S → Type 0
Gave choose false m = (m.found ≡ no_cut) × (m.after ≡ m.before)
Gave choose true m = choose m.before m.rows ≡ ok (m.found, m.after)

-- node c is the child of node k, on one side of its cut
pub record ChildOf {S : Type 0} (met : ℕ → Met S) (k : ℕ) (cut : Cut) (b : Bool → Bool) (c : ℕ) : Type 0 where
  pub parent : (met c).parent ≡ k
  pub level : (met c).level ≡ suc (met k).level
  pub rows : (met c).rows ≡ child b (waiting_at k (met k) cut)

module _ {S : Type 0} (ns : List TreeNode) (met : ℕ → Met S) where
  -- node k is split at a cut
  pub record SplitAt (k : ℕ) (cut : Cut) : Type 0 where
    pub children : ℕ
    pub kind : kind_at ns k ≡ Split (splitting (waiting_at k (met k) cut) children)
    pub above : k < children
    pub inside : suc children < length ns
    pub true_child : ChildOf met k cut on_true children
    pub false_child : ChildOf met k cut on_false (suc children)

  -- what becomes of node k by what its search found: with a cut it waits or is split
  abbrev pub Became : List Waiting → ℕ → Found → Type 0
  Became ws k no_cut = kind_at ns k ≡ Leaf
  Became ws k (cut_found c) = ((kind_at ns k ≡ Leaf) × Awaits k ws) ⊎ SplitAt k c

  -- node k is the child of a split before it
  pub record Born (k : ℕ) : Type 0 where
    pub before : (met k).parent < k
    pub fork : Fork
    pub split : kind_at ns (met k).parent ≡ Split fork
    pub which : (k ≡ fork.children) ⊎ (k ≡ suc fork.children)

  -- a node that waits does so with the cut that it found
  pub record Waits (w : Waiting) : Type 0 where
    pub inside : w.number < length ns
    pub leaf : kind_at ns w.number ≡ Leaf
    pub found : (met w.number).found ≡ cut_found w.cut
    pub same : waiting_at w.number (met w.number) w.cut ≡ w

module _ (P : Params) {S : Type 0} (choose : S → NodeRows → Out (Found × S)) where
  -- what is known of node k
  pub record Known (ns : List TreeNode) (met : ℕ → Met S) (ws : List Waiting) (k : ℕ) : Type 0 where
    pub same : as_leaf (get_or ns k no_node) ≡ leaf_of (met k).rows
    pub gave : Gave choose (asked P k (met k)) (met k)
    pub became : Became ns met ws k (met k).found

  -- from a root, with s₀ to choose by
  pub record History (root : NodeRows) (s₀ : S) (ws : List Waiting) (s : State S) : Type 0 where
    pub met : ℕ → Met S
    pub some : 0 < length s.nodes
    pub root_level : (met 0).level ≡ 1
    pub root_rows : (met 0).rows ≡ root
    pub start : (met 0).before ≡ s₀
    pub next : (k : ℕ) → suc k < length s.nodes → (met (suc k)).before ≡ (met k).after
    pub last : (k : ℕ) → suc k ≡ length s.nodes → (met k).after ≡ s.left
    pub known : (k : ℕ) → k < length s.nodes → Known s.nodes met ws k
    pub born : (k : ℕ) → 0 < k → k < length s.nodes → Born s.nodes met k
    pub waits : Every (Waits s.nodes met) ws
    pub falling : Ordered (λ (w v : Waiting). v.number < w.number) ws

-- ---- two more

-- two places more, at n and behind it
module _ {A : Type 0} (n : ℕ) (f : ℕ → A) (a b : A) where
  unfoldable pub extended : ℕ → A
  extended k = cond (ltb k n) (f k) (cond (eqb k n) a b)

  pub extended-old : (k : ℕ) → k < n → extended k ≡ f k
  unfolding extended
  extended-old k h = ap (λ z. cond z (f k) (cond (eqb k n) a b)) (is_true (ltb k n) (lt→ltb k n h))

  pub extended-first : extended n ≡ a
  unfolding extended
  extended-first = λ i. cond (ltb_no n n (omega arith) i) (f n) (cond (eqb_yes n n refl i) a b)

  pub extended_second : extended (suc n) ≡ b
  unfolding extended
  extended_second = λ i. cond (ltb_no (suc n) n (omega arith) i) (f (suc n)) (cond (eqb_no (suc n) n (λ q. omega (arith, q)) i) a b)

-- what holds before n and of the two holds of all
pub all-places : (Q : ℕ → Type 0) (n : ℕ) → ((k : ℕ) → k < n → Q k) → Q n → Q (suc n) → (k : ℕ) → k < n + 2 → Q k
all-places Q n old first second k h = go (dec_lt k n) (ℕ_discrete k n)
  where
    go : Dec (k < n) → Dec (k ≡ n) → Q k
    go (yes l) e = old k l
    go (no l) (yes e) = subst Q (sym e) first
    go (no l) (no e) = let q : k ≡ suc n = omega (arith, e) in subst Q (sym q) second
