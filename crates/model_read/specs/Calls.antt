-- A model file that is seen to be good or not, and the answer that follows. Assumes nothing.
use Rattle.std.specs.Prelude.{ℕ, suc, ◌≤◌, ◌<◌, ◌≡◌, refl, Bool, ◌&&◌, cond, List, eqb, Ok, Err}
use Rattle.std.proofs.Common.{arith, ◌∙◌}
use Rattle.std.proofs.Math.Path.{sym, ap, subst}
use Rattle.std.proofs.Math.Bool.{true, false, and-false}
use Rattle.std.proofs.Math.ListN.{length}
use Rattle.std.proofs.Math.Dec.{leb}
use borrow.Author.Tests.{le-leb, lt-leb}
use Rattle.rules.specs.declared.Misread.{Misread}
use Rattle.rules.specs.declared.Sizes.{Sizes}
use Rattle.rules.specs.Results.{ModelReply}
use Rattle.rules.specs.Words.{joined, total, front}
use Rattle.rules.specs.Lent.{Columns, Entry, Outcome, outcome_of, shortest, write_entries}
use Rattle.rules.specs.Model.{Field, misread, says, wrong, Header, header_in, trees_at, Model, model_in, TableRooms, table_rooms_of, starts_of, rooms_enough, filled_by, sizes_of, reading, read_model}
use Rattle.lemmas.specs.Lists.{is_true}
use Rattle.lemmas.specs.Tests.{within-top}
use Rattle.lemmas.specs.Fields.{no_says, says_first, says-next, parts, field-met}
use Rattle.lemmas.specs.FileRead.{trees-read, model-read}
use Rattle.node_entries.specs.Entries.{LongAll}
use Rattle.model_check.specs.Seen.{model_seen}
use Rattle.model_read.specs.Trees.{TreesAsk}

-- ---- a header takes nine bytes

header-nine : (bs : List ℕ) (h : Header) (at : ℕ) → header_in bs ≡ says h at → (at ≡ 9) × (9 ≤ length bs)
unfolding header_in
header-nine bs h at q =
    let a = parts _ _ h at q in
    let b = parts _ _ h at a.two in
    let c = parts _ _ h at b.two in
    let d = parts _ _ h at c.two in
    let k = field-met _ _ _ _ _ _ _ a.one in
    let l = field-met _ _ _ _ _ _ _ b.one in
    let m = field-met _ _ _ _ _ _ _ c.one in
    let n = field-met _ _ _ _ _ _ _ d.one in
    (sym (says-next d.two) ∙ omega (arith, k.next, l.next, m.next, n.next), omega (arith, k.next, l.next, m.next, n.inside))

-- ---- the trees of a file that is good

pub record Whole (bs : List ℕ) (M : Model) (end : ℕ) : Type 0 where
  pub trees : trees_at bs M.features 0 (length M.trees) 9 ≡ says M.trees end
  pub place : 9 ≤ length bs

pub model-whole : (bs : List ℕ) (M : Model) (end : ℕ) → model_in bs ≡ says M end → Whole bs M end
unfolding model_in
model-whole bs M end h =
    let p = parts _ _ M end h in
    let q = parts (trees_at bs p.said.features 0 p.said.trees p.mid) _ M end p.two in
    let n = header-nine bs p.said p.mid p.one in
    let (e, m) = go p.said.features q.said q.mid (eqb q.mid (length bs)) q.two in
    let long : length q.said ≡ p.said.trees = (trees-read bs _ _ _ _ _ _ (omega (arith, n.0, n.1)) q.one).number in
    subst (λ N. Whole bs N end) e
    (record { trees = (λ i. trees_at bs p.said.features 0 (long i) (sym n.0 i)) ∙ q.one ∙ ap (says q.said) m; place = n.1 })
  where
    go : (features : ℕ) (ts : List (List Entry)) (at : ℕ) (b : Bool) → cond b (says (record { features = features; trees = ts }) at) (wrong 17 at) ≡ says M end
        → (record { features = features; trees = ts } ≡ M) × (at ≡ end)
    go features ts at true q = (says_first q, says-next q)
    go features ts at false q = no_says q

-- ---- what is seen, and the answer

pub record Good (bs : List ℕ) (s : Sizes) : Type 0 where
  pub model : Model
  pub end : ℕ
  pub said : model_in bs ≡ says model end
  pub sizes : sizes_of model ≡ s

pub good-seen : (bs : List ℕ) (s : Sizes) → ◌≡◌ {A = ModelReply} (Ok s) (model_seen (model_in bs)) → Good bs s
good-seen bs s h = go (model_in bs) refl h
  where
    go : (f : Field Model) → model_in bs ≡ f → ◌≡◌ {A = ModelReply} (Ok s) (model_seen f) → Good bs s
    go (misread m) e q = cc
    go (says M end) e q = record { model = M; end = end; said = e; sizes = let z : sizes_of M ≡ s = cc in z }

pub misread-answered : (bs : List ℕ) (R : TableRooms) (m : Misread) {a : ModelReply} → a ≡ Err m
    → ◌≡◌ {A = ModelReply} (Err m) (model_seen (model_in bs)) → outcome_of a R ≡ read_model bs R
unfolding read_model reading
misread-answered bs R m {a} p h = ap (λ b. outcome_of b R) p ∙ go (model_in bs) h
  where
    go : (f : Field Model) → ◌≡◌ {A = ModelReply} (Err m) (model_seen f) → outcome_of (Err m) R ≡ reading f R
    go (misread l) q = let z : l ≡ m = cc in ap (λ k. outcome_of (Err k) R) (sym z)
    go (says M end) q = cc

module _ (bs : List ℕ) (s : Sizes) (g : Good bs s) (c : Columns) (starts : List ℕ) where
  abbrev R : TableRooms
  R = table_rooms_of c starts

  ends : Bool → Outcome ModelReply TableRooms
  ends b =
      cond b (outcome_of (Ok (sizes_of g.model)) (filled_by g.model.trees R))
      (outcome_of (Err (record { number = 6; place = 0 })) R)

  read-ends : (b : Bool) → rooms_enough g.model.trees R ≡ b → read_model bs R ≡ ends b
  unfolding read_model reading ends
  read-ends b e = ap (λ f. reading f R) g.said ∙ ap ends e

  nodes-are : total length g.model.trees ≡ s.nodes
  unfolding sizes_of
  nodes-are = λ i. (g.sizes i).nodes

  trees-are : length g.model.trees ≡ s.trees
  unfolding sizes_of
  trees-are = λ i. (g.sizes i).trees

  pub nodes-lack : shortest c < s.nodes → outcome_of (Err (record { number = 6; place = 0 })) R ≡ read_model bs R
  unfolding rooms_enough ends
  nodes-lack h =
      sym (read-ends false (ap (λ b. b && leb (suc (length g.model.trees)) (length starts)) (lt-leb (total length g.model.trees) (shortest c) (omega (arith, h, nodes-are)))))

  pub starts-lack : length starts ≤ s.trees → outcome_of (Err (record { number = 6; place = 0 })) R ≡ read_model bs R
  unfolding rooms_enough ends
  starts-lack h =
      sym (read-ends false (ap (λ b. leb (total length g.model.trees) (shortest c) && b) (lt-leb (suc (length g.model.trees)) (length starts) (omega (arith, h, trees-are)))
      ∙ and-false (leb (total length g.model.trees) (shortest c))))

  module _ (h : s.nodes ≤ shortest c) (k : s.trees < length starts) where
    whole : Whole bs g.model g.end
    whole = model-whole bs g.model g.end g.said

    trees-at : trees_at bs s.features 0 s.trees 9 ≡ says g.model.trees g.end
    unfolding sizes_of
    trees-at = (λ i. trees_at bs (sym g.sizes i).features 0 (sym g.sizes i).trees 9) ∙ whole.trees

    features-few : s.features ≤ 1024
    unfolding sizes_of
    features-few = subst (λ (z : Sizes). z.features ≤ 1024) g.sizes (within-top 1024 _ (is_true _ (model-read bs g.model g.end g.said).features))

    trees-few : s.trees ≤ 1024
    trees-few = subst (λ n. n ≤ 1024) trees-are (within-top 1024 _ (is_true _ (model-read bs g.model g.end g.said).number))

    room : LongAll (total length g.model.trees) c
    room =
        record {
          value = omega (arith, h, nodes-are);
          feature = omega (arith, h, nodes-are);
          threshold = omega (arith, h, nodes-are);
          score = omega (arith, h, nodes-are);
          truechild = omega (arith, h, nodes-are);
          falsechild = omega (arith, h, nodes-are);
        }

    pub fill-may : TreesAsk c starts bs s.features s.trees 9
    fill-may =
        record {
          wide = omega (arith, features-few);
          few = trees-few;
          starts = k;
          place = whole.place;
          tables = g.model.trees;
          end = g.end;
          said = trees-at;
          room = room;
        }

    pub read-answered : (d : Columns) (starts' : List ℕ)
        → ((ts : List (List Entry)) (end : ℕ) → trees_at bs s.features 0 s.trees 9 ≡ says ts end
        → (d ≡ write_entries (joined (λ t. t) ts) c) × (starts' ≡ front (starts_of 0 ts) starts))
        → outcome_of (Ok s) (table_rooms_of d starts') ≡ read_model bs R
    unfolding rooms_enough ends filled_by
    read-answered d starts' put =
        let p = put g.model.trees g.end trees-at in
        (λ i. outcome_of (Ok (sym g.sizes i)) (table_rooms_of (p.0 i) (p.1 i)))
        ∙ sym (read-ends true (λ i. le-leb (total length g.model.trees) (shortest c) (omega (arith, h, nodes-are)) i
        && le-leb (suc (length g.model.trees)) (length starts) (omega (arith, k, trees-are)) i))
