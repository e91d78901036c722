-- Entries written by the code's steps. Assumes nothing.
use Rattle.std.specs.Prelude.{ℕ, ◌+◌, ◌≤◌, ◌≡◌, Float}
use Rattle.std.proofs.Common.{le_trans, sym, ap, subst, ◌∙◌, length-set}
use Rattle.rules.specs.Lent.{Columns}
use Rattle.criterion.specs.declared.Side.{Side}
use Rattle.node_entries.specs.declared.WaitingNode.{WaitingNode}
use Rattle.node_entries.specs.declared.NodeEntry.{NodeEntry}
use Rattle.node_entries.specs.Entries.{LongAll, put_entry, NodeRoom, LongRoom, split_for, put_node, put_leaf, wrote_split, NodeLengths, node_lengths, leaf_for}

-- fewer places
pub long-less : (m n : ℕ) (c : Columns) → m ≤ n → LongAll n c → LongAll m c
long-less m n c h l =
    record {
      value = le_trans h l.value;
      feature = le_trans h l.feature;
      threshold = le_trans h l.threshold;
      score = le_trans h l.score;
      truechild = le_trans h l.truechild;
      falsechild = le_trans h l.falsechild;
    }

pub room-less : (m n : ℕ) (c : NodeRoom) → m ≤ n → LongRoom n c → LongRoom m c
room-less m n c h l = record { nodes = long-less m n c.nodes h l.nodes; count = le_trans h l.count; mass = le_trans h l.mass }

-- nodes that are written leave every column as long as it was
pub put-lengths : (i : ℕ) (r : NodeEntry) (k : ℕ) (m : Float) (c : NodeRoom) → node_lengths (put_node i r k m c) ≡ node_lengths c
unfolding put_node put_entry
put-lengths i r k m c = simp length-set

pub leaf-lengths : (i : ℕ) (a : Side) (c : NodeRoom) {c' : NodeRoom} → c' ≡ put_leaf i a c → node_lengths c' ≡ node_lengths c
leaf-lengths i a c e = ap node_lengths e ∙ put-lengths i (leaf_for a.totals) a.count a.totals.mass c

pub split-lengths : (w : WaitingNode) (a b : Side) (q : Float) (n : ℕ) (c : NodeRoom) {c' : NodeRoom} → c' ≡ wrote_split w a b q n c → node_lengths c' ≡ node_lengths c
unfolding wrote_split
split-lengths w a b q n c e =
    ap node_lengths e
    ∙ put-lengths (n + 1) (leaf_for b.totals) b.count b.totals.mass _
    ∙ put-lengths n (leaf_for a.totals) a.count a.totals.mass _
    ∙ put-lengths w.node (split_for w q n) (a.count + b.count) w.mass c

-- as many places are enough in columns as long
pub as-long : (n : ℕ) (c c' : NodeRoom) → node_lengths c' ≡ node_lengths c → LongRoom n c → LongRoom n c'
as-long n c c' e l =
    let at = λ (f : NodeLengths → ℕ) (h : n ≤ f (node_lengths c)). subst (λ z. n ≤ z) (sym (ap f e)) h in
    record {
      nodes = record {
        value = at (λ z. z.value) l.nodes.value;
        feature = at (λ z. z.feature) l.nodes.feature;
        threshold = at (λ z. z.threshold) l.nodes.threshold;
        score = at (λ z. z.score) l.nodes.score;
        truechild = at (λ z. z.truechild) l.nodes.truechild;
        falsechild = at (λ z. z.falsechild) l.nodes.falsechild;
      };
      count = at (λ z. z.count) l.count;
      mass = at (λ z. z.mass) l.mass;
    }
