-- What the functions on slices ask, what a loop over a slice leaves at any element type, and what iterators answer. Nothing is assumed.

-- a row's value of a feature, among the values
pub mod Cells
-- one value written over a room from the front
pub mod Filling
-- what iterators answer, in the rules' words
pub mod Iter
