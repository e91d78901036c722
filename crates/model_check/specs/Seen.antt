-- What is seen of a model file that is gone through: where nodes end, how many there are. Assumes nothing.
use Rattle.std.specs.Prelude.{ℕ, suc, ◌+◌, ◌-◌, ◌≤◌, ◌<◌, ◌≡◌, refl, Bool, true, List, [], length, eqb, cond, Result, Ok, Err}
use Rattle.std.proofs.Common.{add-one, zero-add, eq-eqb, ne_eqb, arith, sym, ◌∙◌, subst}
use Rattle.std.proofs.Math.Path.{ap}
use Rattle.std.proofs.lemmas.Bool.Decides.{nat_tests}
use Rattle.rules.specs.declared.Misread.{Misread}
use Rattle.rules.specs.Results.{ModelReply}
use Rattle.rules.specs.Words.{total}
use Rattle.rules.specs.Lent.{Entry}
use Rattle.rules.specs.Model.{Field, misread, says, wrong, and_then, header_in, model_in, field, before, node_at, nodes_at, count_good, trees_at, Model, sizes_of}
use Rattle.lemmas.specs.Lists.{is_true}
use Rattle.lemmas.specs.Fields.{parts, says_first, goes_on, field-met}
use Rattle.lemmas.specs.FileRead.{nodes-read, header_read, trees-read}
use Rattle.fields.specs.declared.Header.{Header}
use Rattle.fields.specs.Fields.{Read, Read-is, read_as, header_field, Said, said_as, header-said, stops_at}

-- where nodes end
abbrev pub nodes_seen : Field (List Entry) → Result ℕ Misread
nodes_seen (misread m) = Err m
nodes_seen (says es at) = Ok at

-- a tree, with the count that it says
pub record Counted : Type 0 where
  pub number : ℕ
  pub entries : List Entry

-- the next tree that a file says
unfoldable pub one_tree : List ℕ → ℕ → ℕ → ℕ → Field Counted
one_tree bs features sofar at =
    and_then (field bs 4 16 (count_good sofar) at) (λ n at.
    and_then (nodes_at bs features n 0 n at) (λ es at.
    says (record { number = n; entries = es }) at))

-- how many nodes it has
abbrev pub tree_seen : Field Counted → Read ℕ
tree_seen f = read_as (λ t. t.number) f

-- trees after so many nodes: how many nodes there are after them
abbrev pub trees_seen : ℕ → Field (List (List Entry)) → Read ℕ
trees_seen sofar f = read_as (λ ts. sofar + total length ts) f

-- what the file holds
abbrev pub model_seen : Field Model → ModelReply
model_seen (misread m) = Err m
model_seen (says M at) = Ok (sizes_of M)

-- ---- the count of a tree

pub count-few : (sofar n : ℕ) → count_good sofar n ≡ true → sofar + n ≤ 4294967295
unfolding count_good
count-few sofar n h = grind (arith, nat_tests)

-- ---- nodes, one after another

pub more_left : (k n : ℕ) → k < n → n - k ≡ suc (n - (k + 1))
more_left k n h = omega arith

none_left : (k n : ℕ) → n ≤ k → n - k ≡ 0
none_left k n h = omega arith

module _ (bs : List ℕ) (features n k at : ℕ) where
  -- what node k says comes first
  pub nodes-on : k < n → nodes_at bs features n k (n - k) at ≡ and_then (node_at bs features n k at) (λ e at. before e (nodes_at bs features n (k + 1) (n - (k + 1)) at))
  unfolding nodes_at
  nodes-on h =
      ap (λ m. nodes_at bs features n k m at) (more_left k n h)
      ∙ ap (λ j. and_then (node_at bs features n k at) (λ e at. before e (nodes_at bs features n j (n - (k + 1)) at))) (sym (add-one k))

  pub nodes-stop : (m : Misread) → k < n → node_at bs features n k at ≡ misread m → nodes_at bs features n k (n - k) at ≡ misread m
  nodes-stop m h e = nodes-on h ∙ stops_at _ e

  pub nodes-next : (e : Entry) (next : ℕ) → k < n → node_at bs features n k at ≡ says e next
      → nodes_at bs features n k (n - k) at ≡ before e (nodes_at bs features n (k + 1) (n - (k + 1)) next)
  nodes-next e next h q = nodes-on h ∙ goes_on _ q

  pub nodes-end : n ≤ k → nodes_at bs features n k (n - k) at ≡ says [] at
  unfolding nodes_at
  nodes-end h = ap (λ m. nodes_at bs features n k m at) (none_left k n h)

pub before-seen : (e : Entry) (f : Field (List Entry)) → nodes_seen (before e f) ≡ nodes_seen f
unfolding before and_then
before-seen e (misread m) = refl
before-seen e (says es at) = refl

-- ---- trees, one after another

pub trees-on : (bs : List ℕ) (features sofar m at : ℕ)
    → trees_at bs features sofar (suc m) at ≡ and_then (one_tree bs features sofar at) (λ t at. before t.entries (trees_at bs features (sofar + t.number) m at))
unfolding trees_at one_tree and_then
trees-on bs features sofar m at = go (field bs 4 16 (count_good sofar) at)
  where
    inner : (n : ℕ) (f : Field (List Entry))
        → and_then f (λ es at. before es (trees_at bs features (sofar + n) m at))
        ≡ and_then (and_then f (λ es at. says (record { number = n; entries = es }) at)) (λ (t : Counted) at. before t.entries (trees_at bs features (sofar + t.number) m at))
    inner n (misread x) = refl
    inner n (says es next) = refl

    go : (f : Field ℕ)
        → and_then f (λ n at. and_then (nodes_at bs features n 0 n at) (λ es at. before es (trees_at bs features (sofar + n) m at)))
        ≡ and_then (and_then f (λ n at. and_then (nodes_at bs features n 0 n at) (λ es at. says (record { number = n; entries = es }) at)))
        (λ (t : Counted) at. before t.entries (trees_at bs features (sofar + t.number) m at))
    go (misread x) = refl
    go (says n next) = inner n (nodes_at bs features n 0 n next)

module _ (bs : List ℕ) (features sofar trees t at : ℕ) where
  pub trees-stop : (m : Misread) → t < trees → one_tree bs features sofar at ≡ misread m → trees_at bs features sofar (trees - t) at ≡ misread m
  trees-stop m h e = ap (λ n. trees_at bs features sofar n at) (more_left t trees h) ∙ trees-on bs features sofar (trees - (t + 1)) at ∙ stops_at _ e

  pub trees-next : (u : Counted) (next : ℕ) → t < trees → one_tree bs features sofar at ≡ says u next
      → trees_at bs features sofar (trees - t) at ≡ before u.entries (trees_at bs features (sofar + u.number) (trees - (t + 1)) next)
  trees-next u next h e = ap (λ n. trees_at bs features sofar n at) (more_left t trees h) ∙ trees-on bs features sofar (trees - (t + 1)) at ∙ goes_on _ e

  pub trees-end : trees ≤ t → trees_at bs features sofar (trees - t) at ≡ says [] at
  unfolding trees_at
  trees-end h = ap (λ n. trees_at bs features sofar n at) (none_left t trees h)

-- ---- as many nodes as are said

pub tree-said-whole : (bs : List ℕ) (features sofar at : ℕ) (u : Counted) (end : ℕ) → one_tree bs features sofar at ≡ says u end
    → (length u.entries ≡ u.number) × (sofar + u.number ≤ 4294967295)
unfolding one_tree
tree-said-whole bs features sofar at u end h =
    let w = parts _ _ u end h in
    let m = field-met bs 4 16 (count_good sofar) at w.said w.mid w.one in
    let v = parts _ _ u end w.two in
    let e : record { number = w.said; entries = v.said } ≡ u = says_first v.two in
    subst (λ (c : Counted). (length c.entries ≡ c.number) × (sofar + c.number ≤ 4294967295)) e
    ((nodes-read bs features w.said 0 w.said w.mid v.said v.mid (omega (arith, m.inside, m.next)) v.one).number, count-few sofar w.said (is_true _ m.passed))

pub before-trees : (sofar : ℕ) (es : List Entry) (n : ℕ) (f : Field (List (List Entry))) → length es ≡ n → trees_seen sofar (before es f) ≡ trees_seen (sofar + n) f
unfolding before and_then total
before-trees sofar es n (misread m) h = refl
before-trees sofar es n (says ts at) h = ap (λ x. Ok (x, at)) (sum sofar (length es) n (total length ts) h)
  where
    sum : (s l n k : ℕ) → l ≡ n → s + (l + k) ≡ s + n + k
    sum s l n k h = omega arith

-- ---- what the code's answers say

-- nodes that end somewhere are some entries
pub record SaidNodes (f : Field (List Entry)) (end : ℕ) : Type 0 where
  pub entries : List Entry
  pub said : f ≡ says entries end

pub nodes-misread : (f : Field (List Entry)) {m : Misread} → ◌≡◌ {A = Result ℕ Misread} (Err m) (nodes_seen f) → f ≡ misread m
nodes-misread (misread l) {m} h = let e : l ≡ m = cc in ap misread e
nodes-misread (says es at) h = cc

pub nodes-said : (f : Field (List Entry)) {end : ℕ} → ◌≡◌ {A = Result ℕ Misread} (Ok end) (nodes_seen f) → SaidNodes f end
nodes-said (misread l) h = cc
nodes-said (says es at) {end} h = record { entries = es; said = let q : at ≡ end = cc in ap (says es) q }

module _ (bs : List ℕ) (features sofar trees t at : ℕ) {n next : ℕ} (h : t < trees) (e : Read-is (Ok (n, next)) (tree_seen (one_tree bs features sofar at))) where
  one : Said (λ (u : Counted). u.number) (one_tree bs features sofar at) n next
  one = said_as (λ (u : Counted). u.number) _ e

  whole : (length one.what.entries ≡ one.what.number) × (sofar + one.what.number ≤ 4294967295)
  whole = tree-said-whole bs features sofar at one.what next one.said

  pub tree-few : sofar + n ≤ 4294967295
  tree-few = omega (arith, whole.1, one.is)

  pub tree-step : trees_seen (sofar + n) (trees_at bs features (sofar + n) (trees - (t + 1)) next) ≡ trees_seen sofar (trees_at bs features sofar (trees - t) at)
  tree-step =
      (λ i. trees_seen (sofar + sym one.is i) (trees_at bs features (sofar + sym one.is i) (trees - (t + 1)) next))
      ∙ sym (ap (trees_seen sofar) (trees-next bs features sofar trees t at one.what next h one.said) ∙ before-trees sofar one.what.entries one.what.number _ whole.0)

-- ---- the whole file

module _ (bs : List ℕ) (h : Header) (next n place : ℕ) (header : Read-is (Ok (h, next)) (header_field (header_in bs)))
    (all : Read-is (Ok (n, place)) (trees_seen 0 (trees_at bs h.features 0 h.trees next))) where
  told : Said (λ ts. 0 + total length ts) (trees_at bs h.features 0 h.trees next) n place
  told = said_as (λ ts. 0 + total length ts) _ all

  -- by whether it ends after its trees
  abbrev ended : Bool → Field Model
  ended b = cond b (says (record { features = h.features; trees = told.what }) place) (wrong 17 place)

  model-ends : model_in bs ≡ ended (eqb place (length bs))
  unfolding model_in
  model-ends = goes_on _ (header-said header) ∙ goes_on _ told.said

  pub nodes-few : n ≤ 4294967295
  nodes-few = omega (arith, (trees-read bs _ _ _ _ _ _ (header_read bs _ _ (header-said header)).inside told.said).few (omega arith), told.is)

  pub model-good : place ≡ length bs → ◌≡◌ {A = ModelReply} (Ok (record { features = h.features; trees = h.trees; nodes = n })) (model_seen (model_in bs))
  unfolding sizes_of
  model-good e =
      (λ i. Ok (record { features = h.features; trees = sym trees i; nodes = (sym told.is ∙ zero-add _) i }))
      ∙ sym (ap model_seen (model-ends ∙ ap ended (eq-eqb place (length bs) e)))
    where
      trees : length told.what ≡ h.trees
      trees = (trees-read bs _ _ _ _ _ _ (header_read bs _ _ (header-said header)).inside told.said).number

  pub model-left : (place ≡ length bs → ⊥) → ◌≡◌ {A = ModelReply} (Err (record { number = 17; place = place })) (model_seen (model_in bs))
  model-left e = sym (ap model_seen (model-ends ∙ ap ended (ne_eqb place (length bs) e)))
