-- The eight node columns, column by column. Assumes nothing.
use Rattle.std.specs.Prelude.{ℕ, ◌≤◌, ◌≡◌, List, length, take, drop}
use Rattle.std.proofs.Common.{ap}
use Rattle.node_entries.specs.Entries.{NodeRoom, NodeLengths, node_lengths, LongRoom}

-- made of the columns of two rooms
abbrev pub columnwise : ((A : Type 0) → List A → List A → List A) → NodeRoom → NodeRoom → NodeRoom
columnwise f c d =
    record {
      nodes = record {
        value = f _ c.nodes.value d.nodes.value;
        feature = f _ c.nodes.feature d.nodes.feature;
        threshold = f _ c.nodes.threshold d.nodes.threshold;
        score = f _ c.nodes.score d.nodes.score;
        true_child = f _ c.nodes.true_child d.nodes.true_child;
        false_child = f _ c.nodes.false_child d.nodes.false_child;
      };
      behind = record { count = f _ c.behind.count d.behind.count; mass = f _ c.behind.mass d.behind.mass };
    }

-- of those of one
abbrev pub each : ((A : Type 0) → List A → List A) → NodeRoom → NodeRoom
each f c = columnwise (λ A k l. f A k) c c

-- from place n on
abbrev pub drop_all : ℕ → NodeRoom → NodeRoom
drop_all n c = each (λ A. drop n) c

-- and before it
abbrev pub take_each : ℕ → NodeRoom → NodeRoom
take_each n c = each (λ A. take n) c

-- the same of every column that is long enough
pub columns-same : (f g : (A : Type 0) → List A → List A → List A) (n : ℕ) → ((A : Type 0) (k l : List A) → n ≤ length k → f A k l ≡ g A k l) → (c d : NodeRoom) → LongRoom n c
    → columnwise f c d ≡ columnwise g c d
columns-same f g n e c d h = λ i.
    record {
      nodes = record {
        value = e _ c.nodes.value d.nodes.value h.nodes.value i;
        feature = e _ c.nodes.feature d.nodes.feature h.nodes.feature i;
        threshold = e _ c.nodes.threshold d.nodes.threshold h.nodes.threshold i;
        score = e _ c.nodes.score d.nodes.score h.nodes.score i;
        true_child = e _ c.nodes.true_child d.nodes.true_child h.nodes.truechild i;
        false_child = e _ c.nodes.false_child d.nodes.false_child h.nodes.falsechild i;
      };
      behind = record { count = e _ c.behind.count d.behind.count h.count i; mass = e _ c.behind.mass d.behind.mass h.mass i };
    }

-- columns as long as those of a room that is long enough
pub columns-long : (f : (A : Type 0) → List A → List A) (m n : ℕ) → ((A : Type 0) (k₀ k : List A) → length k ≡ length k₀ → m ≤ length k₀ → n ≤ length (f A k)) → (c₀ c : NodeRoom)
    → node_lengths c ≡ node_lengths c₀ → LongRoom m c₀ → LongRoom n (each f c)
columns-long f m n e c₀ c l h =
    record {
      nodes = record {
        value = e _ c₀.nodes.value c.nodes.value (ap (λ (n : NodeLengths). n.value) l) h.nodes.value;
        feature = e _ c₀.nodes.feature c.nodes.feature (ap (λ (n : NodeLengths). n.feature) l) h.nodes.feature;
        threshold = e _ c₀.nodes.threshold c.nodes.threshold (ap (λ (n : NodeLengths). n.threshold) l) h.nodes.threshold;
        score = e _ c₀.nodes.score c.nodes.score (ap (λ (n : NodeLengths). n.score) l) h.nodes.score;
        truechild = e _ c₀.nodes.true_child c.nodes.true_child (ap (λ (n : NodeLengths). n.truechild) l) h.nodes.truechild;
        falsechild = e _ c₀.nodes.false_child c.nodes.false_child (ap (λ (n : NodeLengths). n.falsechild) l) h.nodes.falsechild;
      };
      count = e _ c₀.behind.count c.behind.count (ap (λ (n : NodeLengths). n.count) l) h.count;
      mass = e _ c₀.behind.mass c.behind.mass (ap (λ (n : NodeLengths). n.mass) l) h.mass;
    }
