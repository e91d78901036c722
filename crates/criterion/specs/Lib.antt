-- what the threshold promises, and what a row's mass asks
pub mod Bounds
-- the totals and the count of a node's rows, or of one side of a cut
pub mod Sides
-- the square of the gap between two sides over a divisor
pub mod Gaps
-- an empty slice says that there are no weights
pub mod Weights
