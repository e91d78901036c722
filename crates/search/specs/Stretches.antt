-- A column's stretch and a node that is searched, as the definitions have them. Definitions only. Assumes nothing.
use Rattle.std.specs.Prelude.{ℕ, map, Float}
use Rattle.rules.specs.declared.Cut.{Cut}
use Rattle.rules.specs.declared.Height.{Height}
use Rattle.rules.specs.Search.{Column, NodeRows}
use Rattle.rules.specs.Lent.{cell}
use Rattle.search.specs.declared.column.Readable.{Readable}
use Rattle.search.specs.declared.column.Stretch.{Stretch}
use Rattle.search.specs.declared.NodeView.{NodeView}
use Rattle.search.specs.Flat.{tables_in, Shaped, element_of, run_at, cuts_in, node_rows_at, NodeAsks}

-- the elements that its rows stand for
abbrev pub elements_in : Stretch → Column
elements_in s = map (element_of s.shape.features (tables_in s.input)) s.rows.now

-- each row's value of its feature
abbrev pub values_in : Stretch → ℕ → Float
values_in s = cell s.shape.features s.input.values.now s.feature

-- the value of the run of equals that ends before place i
abbrev pub run_in : Stretch → ℕ → Float
run_in s = run_at (values_in s) s.rows.now

-- the cuts by their places: an earlier one, then those before each row
abbrev pub cuts_of : Height → Stretch → Cut → ℕ → Cut
cuts_of g s = cuts_in g s.shape.features s.input.values.now s.feature s.rows.now

-- the same where the values alone are read
abbrev pub values_read : Readable → ℕ → Float
values_read s = cell s.shape.features s.input.values.now s.feature

abbrev pub run_read : Readable → ℕ → Float
run_read s = run_at (values_read s) s.rows.now

abbrev pub cuts_read : Height → Readable → Cut → ℕ → Cut
cuts_read g s = cuts_in g s.shape.features s.input.values.now s.feature s.rows.now

-- all its tables are as long as rows and features say
abbrev pub shaped_in : Readable → Type 0
shaped_in s = Shaped s.shape.rows s.shape.features (tables_in s.input)

-- the node's rows, column by column
abbrev pub node_in : NodeView → NodeRows
node_in n = node_rows_at n.shape.rows n.shape.features n.from n.to (tables_in n.input) n.order.now n.side

-- what its search asks
abbrev pub asks_in : NodeView → Type 0
asks_in n = NodeAsks n.shape.rows n.shape.features n.from n.to (tables_in n.input) n.order.now n.side.count
