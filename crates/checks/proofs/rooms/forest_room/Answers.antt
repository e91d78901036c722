-- `checks::rooms::forest_room` meets its contract: the rooms of the trees are added up, and each is low. Assumes nothing.
use Rattle.std.proofs.Common.{arith, rules, ◌≡◌, ap, ◌∙◌, ℕ, ◌+◌, ◌-◌, ◌*◌, ◌≤◌, ◌^◌, take, drop, List, Float}
use Rattle.std.proofs.lemmas.Iterator.{YieldsList-from_range, YieldsList-from_map}
use Rattle.std.proofs.lemmas.Iterator.Consumers.{fits_by_from_yields_list, sum_by_from_yields_List}
use Rattle.std.specs.List.{range_with_len, sum_by}
use Rattle.lemmas.specs.Cells.{part_lies}
use Rattle.lemmas.specs.Lists.{every-all, total-under, keep-short, length_from}
use Rattle.rules.specs.Words.{from, stretch, total}
use Rattle.rules.specs.Lent.{kept_in}
use Rattle.slices.specs.Iter.{from-range, total-sum_by}
use Rattle.checks.specs.Rooms.{room_in, room_of, TreeRoom}
use Rattle.checks.proofs.rooms.forest_room.Goals as goal

-- a tree's room, from the part that is looked at
room_at : (rows : ℕ) (ws : List Float) (cs : List ℕ) (t r : ℕ) → TreeRoom ws (take (t * rows + rows - t * rows) (drop (t * rows) cs)) rows r → r ≡ room_of rows ws cs t
room_at rows ws cs t r h = h.exact ∙ ap (room_in rows ws) (part_lies (t * rows) rows cs)

module _ (rows trees : ℕ) (ws : List Float) (cs : List ℕ) where
  in_all : sum_by (room_of rows ws cs) (range_with_len 0 trees) ≡ total (room_of rows ws cs) (from 0 trees)
  in_all = total-sum_by (room_of rows ws cs) (range_with_len 0 trees) ∙ ap (total (room_of rows ws cs)) (from-range 0 trees)

  each_low : rows ≤ 65535 → (t : ℕ) → room_of rows ws cs t ≤ 131071
  each_low few t = omega (arith, keep-short (kept_in ws (stretch (t * rows) rows cs)) (from 0 rows), length_from 0 rows)

  all_low : rows ≤ 65535 → total (room_of rows ws cs) (from 0 trees) ≤ trees * 131071
  all_low few = omega (arith, total-under (room_of rows ws cs) 131071 (from 0 trees) (every-all _ (each_low few) (from 0 trees)), ap (λ n. n * 131071) (length_from 0 trees))

pub sum-requires-clause-fits : goal.sum-requires-clause-fits
sum-requires-clause-fits c =
    let a = c.args in
    let f = room_of a.rows a.weights.now a.counts.now in
    fits_by_from_yields_list f (range_with_len 0 a.trees) _ (2 ^ 64)
    (YieldsList-from_map _ f (YieldsList-from_range 0 a.trees a.trees (cc) (omega arith)) c.map.ensures.closure (λ x r q k. search (rules, room_at)))
    (omega (arith, in_all a.rows a.trees a.weights.now a.counts.now, all_low a.rows a.trees a.weights.now a.counts.now c.requires.few, c.requires.few_trees))

pub returns : goal.returns
returns c =
    let a = c.args in
    let f = room_of a.rows a.weights.now a.counts.now in
    let e : c.sum.result ≡ total f (from 0 a.trees) =
    sum_by_from_yields_List f (range_with_len 0 a.trees) _ _ c.sum.ensures.ran
    (YieldsList-from_map _ f (YieldsList-from_range 0 a.trees a.trees (cc) (omega arith)) c.map.ensures.closure (λ x r q k. search (rules, room_at)))
    ∙ in_all a.rows a.trees a.weights.now a.counts.now in
    record { exact = e; low = omega (arith, e, all_low a.rows a.trees a.weights.now a.counts.now c.requires.few) }
