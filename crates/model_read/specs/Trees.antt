-- The trees of a model file put into the columns one after another, with where each of them starts. Assumes nothing.
use Rattle.std.specs.Prelude.{ℕ, suc, ◌+◌, ◌-◌, ◌≤◌, ◌<◌, ◌≡◌, refl, set}
use Rattle.std.proofs.Common.{zero-add, arith, ◌∙◌}
use Rattle.std.proofs.Math.Path.{sym, ap, subst}
use mathlib.Core.List.{List, [], ◌∷◌}
use Rattle.std.proofs.Math.ListN.{length, length-set}
use Rattle.rules.specs.Words.{joined, total, stretch, front}
use Rattle.rules.specs.Lent.{Columns, Entry, write_entries}
use Rattle.rules.specs.Bytes.{number_in}
use Rattle.rules.specs.Model.{says, field, before, nodes_at, count_good, trees_at, starts_of}
use Rattle.lemmas.specs.Lists.{is_true}
use Rattle.lemmas.specs.Fields.{parts, says_first, says-next, field-met, Met}
use Rattle.lemmas.specs.FileRead.{nodes-read}
use Rattle.lemmas.specs.Spliced.{spliced, spliced-none, spliced-front, spliced-next}
use Rattle.bits.specs.Bits.{Stretches}
use Rattle.node_entries.specs.Entries.{LongAll}
use Rattle.rooms.specs.Zero.{NodesLong}
use Rattle.model_check.specs.Seen.{count-few, more_left, trees-end}
use Rattle.model_read.specs.Nodes.{put_all, put-none, put_front, put-twice, NodesAsk, put_all-long, then-long, same-long, still-long}

pub record TreesAsk (c : Columns) (s bs : List ℕ) (features trees start : ℕ) : Type 0 where
  pub wide : features ≤ 4294967295
  pub few : trees ≤ 1024
  pub starts : trees < length s
  pub place : start ≤ length bs
  pub tables : List (List Entry)
  pub end : ℕ
  pub said : trees_at bs features 0 trees start ≡ says tables end
  pub room : LongAll (total length tables) c

-- all nodes, tree after tree
abbrev pub laid : List (List Entry) → List Entry
laid ts = joined (λ t. t) ts

-- ---- starts: after the first, each is where a tree ends

-- where each tree ends, after so many nodes
unfoldable pub ends_of : ℕ → List (List Entry) → List ℕ
ends_of a [] = []
ends_of a (t ∷ ts) = (a + length t) ∷ ends_of (a + length t) ts

starts-ends : (a : ℕ) (ts : List (List Entry)) → a ∷ ends_of a ts ≡ starts_of a ts
unfolding starts_of ends_of
starts-ends a [] = refl
starts-ends a (t ∷ ts) = ap (λ l. a ∷ l) (starts-ends (a + length t) ts)

-- ---- the next tree that a file says

module _ (bs : List ℕ) (features sofar : ℕ) where
  pub record Turn (m at : ℕ) (ts : List (List Entry)) (end : ℕ) : Type 0 where
    pub number : ℕ
    pub next : ℕ
    pub counted : field bs 4 16 (count_good sofar) at ≡ says number next
    pub entries : List Entry
    pub mid : ℕ
    pub nodes : nodes_at bs features number 0 number next ≡ says entries mid
    pub others : List (List Entry)
    pub left : trees_at bs features (sofar + number) m mid ≡ says others end
    pub all : entries ∷ others ≡ ts

  pub tree-turn : (m at : ℕ) (ts : List (List Entry)) (end : ℕ) → trees_at bs features sofar (suc m) at ≡ says ts end → Turn m at ts end
  unfolding trees_at before
  tree-turn m at ts end h =
      let p = parts _ _ ts end h in
      let q = parts _ _ ts end p.two in
      let r = parts (trees_at bs features (sofar + p.said) m q.mid) (λ l z. says (q.said ∷ l) z) ts end q.two in
      record {
        number = p.said;
        next = p.mid;
        counted = p.one;
        entries = q.said;
        mid = q.mid;
        nodes = q.one;
        others = r.said;
        left = r.one ∙ ap (says r.said) (says-next r.two);
        all = says_first r.two;
      }

-- ---- tree by tree

pub record Filling (c₀ : Columns) (s₀ bs : List ℕ) (features trees start : ℕ) (c : Columns) (s : List ℕ) (at sofar t : ℕ) : Type 0 where
  pub asks : TreesAsk c₀ s₀ bs features trees start
  pub within : t ≤ trees
  pub place : at ≤ length bs
  pub rest : List (List Entry)
  pub said : trees_at bs features sofar (trees - t) at ≡ says rest asks.end
  pub number : sofar + total length rest ≡ total length asks.tables
  pub nodes : put_all sofar (laid rest) c ≡ put_all 0 (laid asks.tables) c₀
  pub starts : spliced (t + 1) (ends_of sofar rest) s ≡ spliced 1 (ends_of 0 asks.tables) s₀
  pub long : NodesLong c₀ c
  pub starts-long : length s ≡ length s₀

module _ (c₀ : Columns) (s₀ bs : List ℕ) (features trees start : ℕ) where
  pub filling-first : TreesAsk c₀ s₀ bs features trees start → Filling c₀ (set s₀ 0 0) bs features trees start c₀ (set s₀ 0 0) start 0 0
  filling-first h =
      record {
        asks =
            record {
              wide = h.wide;
              few = h.few;
              starts = omega (arith, h.starts, length-set s₀ 0 0);
              place = h.place;
              tables = h.tables;
              end = h.end;
              said = h.said;
              room = h.room;
            };
        within = omega arith;
        place = h.place;
        rest = h.tables;
        said = ap (λ m. trees_at bs features 0 m start) (whole trees) ∙ h.said;
        number = zero-add (total length h.tables);
        nodes = refl;
        starts = refl;
        long = same-long c₀;
        starts-long = refl;
      }
    where
      whole : (n : ℕ) → n - 0 ≡ n
      whole n = omega arith

  module _ (c : Columns) (s : List ℕ) (at sofar t : ℕ) (f : Filling c₀ s₀ bs features trees start c s at sofar t) where
    pub filling-end : trees ≤ t → (s₁ : List ℕ) → s₀ ≡ set s₁ 0 0 → (ts : List (List Entry)) (end : ℕ) → trees_at bs features 0 trees start ≡ says ts end
        → (c ≡ write_entries (laid ts) c₀) × (s ≡ front (starts_of 0 ts) s₁)
    unfolding joined ends_of
    filling-end h s₁ e ts end q =
        let left : says [] at ≡ says f.rest f.asks.end = sym (trees-end bs features sofar trees t at h) ∙ f.said in
        let all : f.asks.tables ≡ ts = says_first (sym f.asks.said ∙ q) in (
          sym (put-none sofar c) ∙ ap (λ l. put_all sofar (laid l) c) (says_first left) ∙ f.nodes ∙ put_front (laid f.asks.tables) c₀ ∙ ap (λ l. write_entries (laid l) c₀) all,
          sym (spliced-none (t + 1) s) ∙ ap (λ l. spliced (t + 1) (ends_of sofar l) s) (says_first left) ∙ f.starts
              ∙ (λ i. spliced 1 (ends_of 0 (all i)) (e i))
              ∙ spliced-next 0 0 (ends_of 0 ts) s₁ (omega (arith, f.asks.starts, ap length e, length-set s₁ 0 0))
              ∙ spliced-front (0 ∷ ends_of 0 ts) s₁ ∙ ap (λ l. front l s₁) (starts-ends 0 ts),
        )

    module _ (h : t < trees) where
      turn : Turn bs features sofar (trees - (t + 1)) at f.rest f.asks.end
      turn = tree-turn bs features sofar (trees - (t + 1)) at f.rest f.asks.end (ap (λ m. trees_at bs features sofar m at) (sym (more_left t trees h)) ∙ f.said)

      met : Met bs 4 16 (count_good sofar) at turn.number turn.next
      met = field-met bs 4 16 (count_good sofar) at turn.number turn.next turn.counted

      pub filling-count : Stretches at 4 bs
      filling-count = record { few = omega arith; inside = met.inside }

      module _ (x : ℕ) (is : x ≡ number_in (stretch at 4 bs)) where
        same : turn.number ≡ x
        same = met.number ∙ sym is

        long_as : length turn.entries ≡ x
        long_as =
            (nodes-read bs features turn.number 0 turn.number turn.next turn.entries turn.mid (omega (arith, met.inside, met.next)) turn.nodes).number
            ∙ same

        numbers : total length f.rest ≡ x + total length turn.others
        unfolding total
        numbers = ap (total length) (sym turn.all) ∙ ap (λ n. n + total length turn.others) long_as

        pub filling-fits : sofar + x ≤ 4294967295
        filling-fits = subst (λ n. sofar + n ≤ 4294967295) same (count-few sofar turn.number (is_true (count_good sofar turn.number) met.passed))

        nodes-at : nodes_at bs features x 0 x (at + 4) ≡ says turn.entries turn.mid
        nodes-at = (λ i. nodes_at bs features (sym same i) 0 (sym same i) (sym met.next i)) ∙ turn.nodes

        room : LongAll (sofar + x) c
        room = still-long (sofar + x) (total length f.asks.tables) c₀ c f.asks.room f.long (omega (arith, f.number, numbers))

        pub filling-may : NodesAsk c bs features x sofar (at + 4)
        filling-may =
            record {
              few = omega (arith, filling-fits);
              wide = f.asks.wide;
              room = room;
              entries = turn.entries;
              end = turn.mid;
              said = nodes-at;
            }

        pub filling-on : (d : Columns) (r : ℕ) → ((es : List Entry) (end : ℕ) → nodes_at bs features x 0 x (at + 4) ≡ says es end → (d ≡ put_all sofar es c) × (r ≡ end))
            → Filling c₀ s₀ bs features trees start d (set s (t + 1) (sofar + x)) r (sofar + x) (t + 1)
        unfolding joined ends_of
        filling-on d r put =
            let p = put turn.entries turn.mid nodes-at in
            record {
              asks = f.asks;
              within = omega arith;
              place = subst (λ n. n ≤ length bs) (sym p.1) (nodes-read bs features turn.number 0 turn.number turn.next turn.entries turn.mid
                  (omega (arith, met.inside, met.next)) turn.nodes).inside;
              rest = turn.others;
              said = (λ i. trees_at bs features (sofar + sym same i) (trees - (t + 1)) (p.1 i)) ∙ turn.left;
              number = omega (arith, f.number, numbers);
              nodes =
                  ap (put_all (sofar + x) (laid turn.others)) p.0
                  ∙ put-twice sofar x turn.entries (laid turn.others) c long_as room
                  ∙ ap (λ l. put_all sofar (laid l) c) turn.all
                  ∙ f.nodes;
              starts =
                  spliced-next (t + 1) (sofar + x) (ends_of (sofar + x) turn.others) s (omega (arith, f.asks.starts, f.starts-long))
                  ∙ ap (λ n. spliced (t + 1) ((sofar + n) ∷ ends_of (sofar + n) turn.others) s) (sym long_as)
                  ∙ ap (λ l. spliced (t + 1) (ends_of sofar l) s) turn.all
                  ∙ f.starts;
              long = then-long c₀ c d f.long (put_all-long sofar turn.entries c d p.0 (subst (λ m. LongAll (sofar + m) c) (sym long_as) room));
              starts-long = length-set s (t + 1) (sofar + x) ∙ f.starts-long;
            }
