-- `work_columns::partition_columns` meets its contract: after k turns the rows of the first k columns are parted, and column k is as it was; the column that is passed over is parted as it stands.
-- Assumes nothing.
use Rattle.std.proofs.Common.{arith, ◌≡◌, refl, sym, ap, ◌∙◌, subst, Bool, List, ℕ, ◌<◌, ◌-◌, ◌+◌, ◌*◌, length}
use Rattle.rules.specs.Words.{stretch}
use Rattle.lemmas.specs.Lists.{Every}
use Rattle.lemmas.specs.Work.{part}
use Rattle.sweeps.specs.Swept.{flagged, parted, PartAsks}
use Rattle.sweeps.specs.Fronts.{parted-long}
use Rattle.work_columns.specs.Columns.{ColumnsAsk}
use Rattle.work_columns.specs.Stretches.{part-long, Keeps, Going, going_start, going-turn, going_done, going-long, going-rest, going-past}
use Rattle.work_columns.proofs.partition_columns.Invariants.{way}
use Rattle.work_columns.proofs.partition_columns.Goals as goal
use Rattle.work_columns.proofs.partition_columns.Goals.{then-k-but, else-k-but}

keeps : (flags : List Bool) (n m : ℕ) → Keeps (way flags) n m
keeps flags n m k h l e = parted-long (flagged flags) l ∙ e

module _ (rows features a e : ℕ) (flags : List Bool) (order₀ order : List ℕ) (scratch k : ℕ) (q : ColumnsAsk rows features a e order₀ scratch (length flags))
    (s : Going rows a e (way flags) features order₀ order k) where
  long : length order ≡ length order₀
  long = going-long rows a e (way flags) features order₀ q.ordered q.high q.long (keeps flags features (e - a)) order k s

  wide : k * rows + e - (k * rows + a) ≡ e - a
  wide = omega arith

  asks : k < features → {n : ℕ} → n ≡ scratch → PartAsks (stretch (k * rows + a) (k * rows + e - (k * rows + a)) order) n (length flags)
  asks h {n} m =
      let same : stretch (k * rows + a) (k * rows + e - (k * rows + a)) order ≡ part rows k a e order₀ =
      ap (λ w. stretch (k * rows + a) w order) wide
      ∙ going-rest rows a e (way flags) features order₀ q.ordered q.high q.long (keeps flags features (e - a)) order k s in
      record {
        room = omega (arith, m, ap length same, part-long rows features k a e order₀ q.long h q.ordered q.high, q.room);
        below = subst (Every (λ r. r < length flags)) (sym same) (q.below k h);
      }

  -- column k is the one that is parted as it stands
  past : k < features → {but : ℕ} → k ≡ but → parted (flagged flags) (part rows but a e order₀) ≡ part rows but a e order₀
      → Going rows a e (way flags) features order₀ order (k + 1)
  past h is p = going-past rows a e (way flags) features order₀ q.ordered q.high q.long (keeps flags features (e - a)) order k s h (rw is p)

pub loop-k-init : goal.loop-k-init
loop-k-init c = going_start _ _ _ _ _ _

pub stable_partition-requires : goal.stable_partition-requires
stable_partition-requires c =
    asks c.args.shape.rows c.args.shape.features _ _ c.args.flags.now c.args.order.now _ _ c.loop-k.k c.requires.columns_ask c.loop-k.invariant (omega arith) c.loop-k.auto.scratch

pub loop-k-preserved : goal.loop-k-preserved
loop-k-preserved c =
    let a = c.args in
    let l = c.loop-k in
    let rows = a.shape.rows in
    let features = a.shape.features in
    let low = l.k * rows + a.start in
    let h : l.k < features = omega arith in
    elim c.if-k-but.branch [
      | then-k-but u ↦ rw u.order-is (going-turn rows a.start a.end (way a.flags.now) features a.order.now l.order u.stable_partition.new.col l.k low
          (l.k * rows + a.end - low) l.invariant h refl (omega arith) u.stable_partition.ensures.parts)
      | else-k-but u ↦ rw u.order-is (past rows features a.start a.end a.flags.now a.order.now l.order _ l.k c.requires.columns_ask l.invariant
          h u.if-k-but.false c.requires.order_value)
    ]

pub returns : goal.returns
returns c = going_done _ _ _ _ _ _ _ _ c.loop-k.invariant (omega arith)
