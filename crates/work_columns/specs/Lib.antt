-- What the work columns hold after each step of set-up and split, and the laws that growth needs of it. Nothing is assumed.

-- the columns, and what set-up and partition promise of them
pub mod Columns
-- what the split pass promises
pub mod Split
-- what a fit is given, row by row, and what is asked of it
pub mod Rows
-- parts of parts, and the same places of every column changed
pub mod Stretches
-- root totals, counts and the kept rows of a listing, by their loops
pub mod Setup
-- the kept rows of every listing are the root's
pub mod Kept
-- a list that is parted as it stands: its first entries pass, the others do not
pub mod Cleft
-- the split pass, row by row
pub mod Pass
-- every column split alike: the two sides are the children's columns
pub mod Halves
