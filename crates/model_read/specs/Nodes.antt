-- The nodes of a tree put into the six columns one after another. Assumes nothing.
use Rattle.std.specs.Prelude.{ℕ, ◌+◌, ◌-◌, ◌≤◌, ◌<◌, ◌≡◌, refl, List, [], ◌∷◌, ◌++◌, map, length, set, Ok}
use Rattle.std.proofs.Common.{add-zero, sym, ◌∙◌, subst}
use native.Mathlib.Omega.{arith}
use Rattle.std.proofs.Math.Path.{ap}
use Rattle.std.proofs.Math.ListN.{length-set}
use Rattle.std.specs.Result.{IsOk}
use Rattle.std.proofs.lemmas.List.{map-append, length-map}
use Rattle.rules.specs.declared.TableRoom.{TableRoom}
use Rattle.rules.specs.Slices.{SameTable}
use Rattle.rules.specs.Lent.{Columns, Entry, write_entries}
use Rattle.rules.specs.Model.{says, before, node_at, nodes_at}
use Rattle.lemmas.specs.Spliced.{spliced, spliced-none, spliced-front, spliced-next, spliced-length, spliced-then}
use Rattle.lemmas.specs.Fields.{parts, says_first, says-next}
use Rattle.node_entries.specs.Entries.{LongAll, put_entry}
use Rattle.rooms.specs.Zero.{NodesLong}
use Rattle.node_entries.specs.declared.NodeEntry.{NodeEntry}
use Rattle.fields.specs.Fields.{Read, node_entry, node_field}
use Rattle.model_check.specs.Seen.{nodes-on, nodes-end}

-- ---- entries in the six columns, from some place on

-- the columns with the entries put in
unfoldable pub put_all : ℕ → List Entry → Columns → Columns
put_all base es c =
    record {
      value = spliced base (map (λ (e : Entry). e.value) es) c.value;
      feature = spliced base (map (λ (e : Entry). e.feature) es) c.feature;
      threshold = spliced base (map (λ (e : Entry). e.threshold) es) c.threshold;
      score = spliced base (map (λ (e : Entry). e.score) es) c.score;
      true_child = spliced base (map (λ (e : Entry). e.true_child) es) c.true_child;
      false_child = spliced base (map (λ (e : Entry). e.false_child) es) c.false_child;
    }

pub put-none : (base : ℕ) (c : Columns) → put_all base [] c ≡ c
unfolding put_all
put-none base c = λ i.
    record {
      value = spliced-none base c.value i;
      feature = spliced-none base c.feature i;
      threshold = spliced-none base c.threshold i;
      score = spliced-none base c.score i;
      true_child = spliced-none base c.true_child i;
      false_child = spliced-none base c.false_child i;
    }

pub put_front : (es : List Entry) (c : Columns) → put_all 0 es c ≡ write_entries es c
unfolding put_all
put_front es c = λ i.
    record {
      value = spliced-front (map (λ (e : Entry). e.value) es) c.value i;
      feature = spliced-front (map (λ (e : Entry). e.feature) es) c.feature i;
      threshold = spliced-front (map (λ (e : Entry). e.threshold) es) c.threshold i;
      score = spliced-front (map (λ (e : Entry). e.score) es) c.score i;
      true_child = spliced-front (map (λ (e : Entry). e.true_child) es) c.true_child i;
      false_child = spliced-front (map (λ (e : Entry). e.false_child) es) c.false_child i;
    }

pub put_next : (base : ℕ) (e : Entry) (es : List Entry) (c : Columns) → LongAll (base + 1) c → put_all (base + 1) es (put_entry base (node_entry e) c) ≡ put_all base (e ∷ es) c
unfolding put_all put_entry
put_next base e es c l = λ i.
    record {
      value = one (λ (x : Entry). x.value) c.value l.value i;
      feature = one (λ (x : Entry). x.feature) c.feature l.feature i;
      threshold = one (λ (x : Entry). x.threshold) c.threshold l.threshold i;
      score = one (λ (x : Entry). x.score) c.score l.score i;
      true_child = one (λ (x : Entry). x.true_child) c.true_child l.truechild i;
      false_child = one (λ (x : Entry). x.false_child) c.false_child l.falsechild i;
    }
  where
    one : {A : Type 0} (f : Entry → A) (old : List A) → base + 1 ≤ length old → spliced (base + 1) (map f es) (set old base (f e)) ≡ spliced base (map f (e ∷ es)) old
    one f old h = spliced-next base (f e) (map f es) old (omega (arith, h))

pub put-twice : (base n : ℕ) (es fs : List Entry) (c : Columns) → length es ≡ n → LongAll (base + n) c → put_all (base + n) fs (put_all base es c) ≡ put_all base (es ++ fs) c
unfolding put_all
put-twice base n es fs c q l = λ i.
    record {
      value = one (λ (x : Entry). x.value) c.value l.value i;
      feature = one (λ (x : Entry). x.feature) c.feature l.feature i;
      threshold = one (λ (x : Entry). x.threshold) c.threshold l.threshold i;
      score = one (λ (x : Entry). x.score) c.score l.score i;
      true_child = one (λ (x : Entry). x.true_child) c.true_child l.truechild i;
      false_child = one (λ (x : Entry). x.false_child) c.false_child l.falsechild i;
    }
  where
    one : {A : Type 0} (f : Entry → A) (old : List A) → base + n ≤ length old → spliced (base + n) (map f fs) (spliced base (map f es) old) ≡ spliced base (map f (es ++ fs)) old
    one f old h =
        spliced-then base (map f es) (map f fs) old refl refl (ap (λ m. base + m) (sym (length-map es f ∙ q)))
        (subst (λ m. base + m ≤ length old) (sym (length-map es f ∙ q)) h)
        ∙ ap (λ l. spliced base l old) (sym (map-append f es fs))

-- ---- the same slices, turn after turn

pub same-first : (a : TableRoom) → SameTable a a
same-first a = record { value = refl; feature = refl; threshold = refl; score = refl; truechild = refl; falsechild = refl }

pub same-then : (a b d : TableRoom) → SameTable a b → SameTable b d → SameTable a d
same-then a b d h k =
    record {
      value = k.value ∙ h.value;
      feature = k.feature ∙ h.feature;
      threshold = k.threshold ∙ h.threshold;
      score = k.score ∙ h.score;
      truechild = k.truechild ∙ h.truechild;
      falsechild = k.falsechild ∙ h.falsechild;
    }

-- ---- what a tree asks

pub record NodesAsk (c : Columns) (bs : List ℕ) (features n base start : ℕ) : Type 0 where
  pub few : n ≤ 4294967295
  pub wide : features ≤ 4294967295
  pub room : LongAll (base + n) c
  pub entries : List Entry
  pub end : ℕ
  pub said : nodes_at bs features n 0 n start ≡ says entries end

-- ---- the nodes of a tree, one after another

pub record Putting (c₀ : Columns) (bs : List ℕ) (features n base start : ℕ) (c : Columns) (at k : ℕ) : Type 0 where
  pub asks : NodesAsk c₀ bs features n base start
  pub within : k ≤ n
  pub rest : List Entry
  pub said : nodes_at bs features n k (n - k) at ≡ says rest asks.end
  pub done : put_all (base + k) rest c ≡ put_all base asks.entries c₀
  pub long : NodesLong c₀ c

pub same-long : (c : Columns) → NodesLong c c
same-long c = record { value = refl; feature = refl; threshold = refl; score = refl; truechild = refl; falsechild = refl }

pub then-long : (c d e : Columns) → NodesLong c d → NodesLong d e → NodesLong c e
then-long c d e h k =
    record {
      value = k.value ∙ h.value;
      feature = k.feature ∙ h.feature;
      threshold = k.threshold ∙ h.threshold;
      score = k.score ∙ h.score;
      truechild = k.truechild ∙ h.truechild;
      falsechild = k.falsechild ∙ h.falsechild;
    }

-- columns that are written are as long as they were
pub put-long : (i : ℕ) (r : NodeEntry) (c d : Columns) → d ≡ put_entry i r c → NodesLong c d
unfolding put_entry
put-long i r c d e =
    record {
      value = ap (λ (x : Columns). length x.value) e ∙ length-set c.value i r.value;
      feature = ap (λ (x : Columns). length x.feature) e ∙ length-set c.feature i r.feature;
      threshold = ap (λ (x : Columns). length x.threshold) e ∙ length-set c.threshold i r.threshold;
      score = ap (λ (x : Columns). length x.score) e ∙ length-set c.score i r.score;
      truechild = ap (λ (x : Columns). length x.true_child) e ∙ length-set c.true_child i r.truechild;
      falsechild = ap (λ (x : Columns). length x.false_child) e ∙ length-set c.false_child i r.falsechild;
    }

pub put_all-long : (base : ℕ) (es : List Entry) (c d : Columns) → d ≡ put_all base es c → LongAll (base + length es) c → NodesLong c d
unfolding put_all
put_all-long base es c d e l =
    record {
      value = ap (λ (x : Columns). length x.value) e ∙ one (λ (x : Entry). x.value) c.value l.value;
      feature = ap (λ (x : Columns). length x.feature) e ∙ one (λ (x : Entry). x.feature) c.feature l.feature;
      threshold = ap (λ (x : Columns). length x.threshold) e ∙ one (λ (x : Entry). x.threshold) c.threshold l.threshold;
      score = ap (λ (x : Columns). length x.score) e ∙ one (λ (x : Entry). x.score) c.score l.score;
      truechild = ap (λ (x : Columns). length x.true_child) e ∙ one (λ (x : Entry). x.true_child) c.true_child l.truechild;
      falsechild = ap (λ (x : Columns). length x.false_child) e ∙ one (λ (x : Entry). x.false_child) c.false_child l.falsechild;
    }
  where
    one : {A : Type 0} (f : Entry → A) (old : List A) → base + length es ≤ length old → length (spliced base (map f es) old) ≡ length old
    one f old h = spliced-length base (map f es) old (omega (arith, h, length-map es f))

-- places that there were are still there
pub still-long : (m n : ℕ) (c d : Columns) → LongAll n c → NodesLong c d → m ≤ n → LongAll m d
still-long m n c d l s h =
    record {
      value = omega (arith, l.value, s.value, h);
      feature = omega (arith, l.feature, s.feature, h);
      threshold = omega (arith, l.threshold, s.threshold, h);
      score = omega (arith, l.score, s.score, h);
      truechild = omega (arith, l.truechild, s.truechild, h);
      falsechild = omega (arith, l.falsechild, s.falsechild, h);
    }

module _ (c₀ : Columns) (bs : List ℕ) (features n base start : ℕ) where
  pub putting-first : NodesAsk c₀ bs features n base start → Putting c₀ bs features n base start c₀ start 0
  putting-first h =
      record {
        asks = h;
        within = omega arith;
        rest = h.entries;
        said = ap (λ m. nodes_at bs features n 0 m start) (whole n) ∙ h.said;
        done = ap (λ m. put_all m h.entries c₀) (add-zero base);
        long = same-long c₀;
      }
    where
      whole : (n : ℕ) → n - 0 ≡ n
      whole n = omega arith

  module _ (c : Columns) (at k : ℕ) (p : Putting c₀ bs features n base start c at k) where
    pub putting-end : n ≤ k → (es : List Entry) (end : ℕ) → nodes_at bs features n 0 n start ≡ says es end → (c ≡ put_all base es c₀) × (at ≡ end)
    putting-end h es end q =
        let left : says [] at ≡ says p.rest p.asks.end = sym (nodes-end bs features n k at h) ∙ p.said in
        let all : says p.asks.entries p.asks.end ≡ says es end = sym p.asks.said ∙ q in (
          sym (put-none (base + k) c) ∙ ap (λ l. put_all (base + k) l c) (says_first left) ∙ p.done ∙ ap (λ l. put_all base l c₀) (says_first all),
          says-next left ∙ says-next all,
        )

    module _ (h : k < n) where
      -- the node that the file says
      pub record Next : Type 0 where
        pub entry : Entry
        pub mid : ℕ
        pub said : node_at bs features n k at ≡ says entry mid

      pub putting-reads : Next
      putting-reads = let w = parts _ _ p.rest p.asks.end (sym (nodes-on bs features n k at h) ∙ p.said) in record { entry = w.said; mid = w.mid; said = w.one }

      pub putting-may : LongAll (base + k + 1) c
      putting-may = still-long (base + k + 1) (base + n) c₀ c p.asks.room p.long (omega arith)

      pub putting-on : (r : NodeEntry × ℕ) → ((e : Entry) (next : ℕ) → node_at bs features n k at ≡ says e next → r ≡ (node_entry e, next)) → (d : Columns)
          → d ≡ put_entry (base + k) r.0 c → Putting c₀ bs features n base start d r.1 (k + 1)
      unfolding before
      putting-on r reads d put =
          let w = parts _ _ p.rest p.asks.end (sym (nodes-on bs features n k at h) ∙ p.said) in
          let v = parts (nodes_at bs features n (k + 1) (n - (k + 1)) w.mid) (λ l next. says (w.said ∷ l) next) p.rest p.asks.end w.two in
          let q : r ≡ (node_entry w.said, w.mid) = reads w.said w.mid w.one in
          record {
            asks = p.asks;
            within = omega arith;
            rest = v.said;
            said = (λ i. nodes_at bs features n (k + 1) (n - (k + 1)) (q i).1) ∙ v.one ∙ ap (says v.said) (says-next v.two);
            done =
                (λ i. put_all (up base k i) v.said ((put ∙ ap (λ (z : NodeEntry × ℕ). put_entry (base + k) z.0 c) q) i))
                ∙ put_next (base + k) w.said v.said c putting-may
                ∙ ap (λ l. put_all (base + k) l c) (says_first v.two)
                ∙ p.done;
            long = then-long c₀ c d p.long (put-long (base + k) r.0 c d put);
          }
        where
          up : (a b : ℕ) → a + (b + 1) ≡ a + b + 1
          up a b = omega arith

-- ---- what is taken out of a field that says something

pub says-ok : {f : _} {e : Entry} {next : ℕ} {r : Read NodeEntry} → r ≡ node_field f → f ≡ says e next → r ≡ Ok (node_entry e, next)
says-ok p h = p ∙ ap node_field h

pub taken-out : {f : _} {e : Entry} {next : ℕ} {r : Read NodeEntry} {x : NodeEntry × ℕ} → r ≡ Ok x → r ≡ node_field f → f ≡ says e next → x ≡ (node_entry e, next)
taken-out {f} {e} {next} {r} {x} q p h = let z : ◌≡◌ {A = Read NodeEntry} (Ok x) (Ok (node_entry e, next)) = sym q ∙ says-ok p h in cc

pub out-is_ok : {f : _} {e : Entry} {next : ℕ} {r : Read NodeEntry} → r ≡ node_field f → f ≡ says e next → IsOk r
out-is_ok p h = subst (λ (s : Read NodeEntry). IsOk s) (sym (says-ok p h)) refl
