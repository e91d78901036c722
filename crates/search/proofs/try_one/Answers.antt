-- `search::try_one` meets its contract: a match on the splitter, over the feature's stretch of the columns. Assumes nothing.
use Rattle.std.proofs.Common.{refl}
use Rattle.search.specs.Flat.{tables_in, left}
use Rattle.search.specs.Tries.{part-is, try-best, try-random}
use Rattle.search.specs.Rows.{try-rows, tries-rows}
use Rattle.search.proofs.try_one.Goals as goal

pub returns-in-Best : goal.returns-in-Best
returns-in-Best c =
    let a = c.args in
    let q = c.requires in
    let s = a.node.now in
    let n = s.shape in
    let t = tables_in s.input in
    let p = part-is n.rows s.order.now s.from s.to a.j refl q.node_asks.ordered in
    record {
      tried = λ W k. try-best n.rows n.features s.from s.to t s.order.now s.side s.params a.j q.one a.h.held (left W a.thresholds.now k a.m) p c.best_in.ensures.best c.in-Best.is;
      rows = try-rows n.rows n.features s.from s.to t s.order.now s.side s.params a.j q.one a.h p _ c.best_in.ensures.tried q.rows;
    }

pub returns-in-Random : goal.returns-in-Random
returns-in-Random c =
    let a = c.args in
    let q = c.requires in
    let s = a.node.now in
    let n = s.shape in
    let t = tables_in s.input in
    let p = part-is n.rows s.order.now s.from s.to a.j refl q.node_asks.ordered in
    record {
      tried = λ W k. try-random n.rows n.features s.from s.to t s.order.now s.side s.params a.j q.one
          (record { best = a.h.held; left = left W a.thresholds.now k a.m }) p (c.random_in.ensures.drawn W k) c.in-Random.is;
      rows = tries-rows n.rows n.features s.from s.to t s.order.now s.side s.params a.j q.one a.h p c.random_in.result c.random_in.ensures.tried q.rows;
    }
