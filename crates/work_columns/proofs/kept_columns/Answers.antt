-- `work_columns::kept_columns` meets its contract: after k turns the first k columns begin with the kept rows of their listings, and each had as many. Assumes nothing.
use Rattle.std.proofs.Common.{arith, ℕ, ◌-◌, ◌+◌, ◌*◌, ◌<◌, ◌≤◌, below_more, ◌≡◌, refl, sym, ap, ◌∙◌, subst, Bool, List, length, take, Float}
use borrow.Rule.Slice.PartMut.{put_mid}
use Rattle.rules.specs.Words.{keep, from, stretch}
use Rattle.rules.specs.Lent.{listing_at, kept_in}
use Rattle.lemmas.specs.Lists.{Every}
use Rattle.lemmas.specs.Once.{once-below}
use Rattle.lemmas.specs.Work.{part}
use Rattle.work_columns.specs.Columns.{changed, KeptTo, KeptAll, KeepAsks, KeepAllAsks}
use Rattle.work_columns.specs.Stretches.{column-end, length-stretch, stretch-in, changed-here, changed-before}
use Rattle.work_columns.specs.Setup.{kept-few}
use Rattle.work_columns.specs.Kept.{kept-rows}
use Rattle.work_columns.proofs.kept_columns.Goals as goal

module _ (rows features : ℕ) (listings : List ℕ) (weights : List Float) (counts order₀ order : List ℕ) (n k : ℕ)
    (q : KeepAllAsks rows features listings weights counts (length order₀)) (s : 0 < k → KeptAll (kept_in weights counts) rows k listings order n)
    (h : k < features) (long : length order ≡ length order₀) where
  abbrev p : ℕ → Bool
  p = kept_in weights counts

  abbrev width : ℕ
  width = k * rows + rows - k * rows

  ends : (k * rows + rows ≤ length order) × (k * rows + rows ≤ length listings)
  ends = (omega (arith, column-end rows features k h, q.room, long), omega (arith, column-end rows features k h, q.listed))

  wide : width ≡ rows
  wide = omega arith

  mine : stretch (k * rows) width listings ≡ listing_at rows listings k
  unfolding listing_at
  mine = ap (λ w. stretch (k * rows) w listings) wide

  part-size : (l : List ℕ) → k * rows + rows ≤ length l → length (stretch (k * rows) width l) ≡ rows
  part-size l g = length-stretch (k * rows) width l (omega (arith, wide)) ∙ wide

  asks : KeepAsks (stretch (k * rows) width listings) weights counts (length (stretch (k * rows) width order))
  asks =
      record {
        tables = record { counted = refl; weighed = λ w. q.tables.weighed w ∙ sym q.tables.counted };
        below =
            subst (Every (λ i. i < length counts)) (sym mine) (subst (λ m. Every (λ i. i < m) (listing_at rows listings k)) (sym q.tables.counted)
            (once-below rows (listing_at rows listings k) (q.once k h)));
        room = omega (arith, part-size listings ends.1, part-size order ends.0);
      }

  -- column k was lent, and is back as `new`
  module _ (new : List ℕ) (r : ℕ) (t : KeptTo p (stretch (k * rows) width listings) new r) (l : length new ≡ length (stretch (k * rows) width order)) where
    abbrev next : List ℕ
    next = put_mid (k * rows) width order new

    room-here : k * rows + width ≤ length order
    room-here = omega (arith, wide, ends.0)

    as_long : length new ≡ width
    as_long = l ∙ length-stretch (k * rows) width order room-here

    count : r ≡ length (keep p (from 0 rows))
    count = t.count ∙ ap (λ z. length (keep p z)) mine ∙ kept-rows p rows (listing_at rows listings k) (q.once k h)

    few : r ≤ rows
    few = omega (arith, count, kept-few p rows)

    all : r - 0 ≡ r
    all = omega arith

    here : part rows k 0 r next ≡ keep p (listing_at rows listings k)
    unfolding changed
    here =
        sym (stretch-in (k * rows) width 0 (r - 0) next (omega (arith, wide, few)))
        ∙ ap (take (r - 0)) (changed-here (k * rows) width (λ z. new) order room-here as_long)
        ∙ ap (λ m. take m new) all ∙ t.written ∙ ap (keep p) mine

    before : (j : ℕ) → j < k → part rows j 0 r next ≡ keep p (listing_at rows listings j)
    unfolding changed
    before j u =
        let was = s (omega arith) in
        changed-before (k * rows) width (λ z. new) order room-here as_long (j * rows + 0) (r - 0) (omega (arith, column-end rows k j u, few))
        ∙ ap (λ m. part rows j 0 m order) (count ∙ sym was.count) ∙ was.written j u

    turn : KeptAll p rows (k + 1) listings next r
    turn = record { within = few; count = count; written = below_more _ _ before here }

pub kept_column-n-requires : goal.kept_column-n-requires
kept_column-n-requires c = asks _ _ _ _ _ _ _ _ _ c.requires c.loop-k.invariant (omega arith) c.loop-k.auto.order

pub loop-k-preserved : goal.loop-k-preserved
loop-k-preserved c =
    λ u. turn _ _ _ _ _ _ _ _ _ c.requires c.loop-k.invariant (omega arith) c.loop-k.auto.order c.kept_column-n.new.column c.kept_column-n.result c.kept_column-n.ensures c.kept_column-n.auto.column
