-- What is held of a search, and the laws of a candidate against it. Nothing is assumed.

-- a node by its totals and count alone, and what a place in a column stands for
pub mod Held
-- a candidate against what is held
pub mod Better
