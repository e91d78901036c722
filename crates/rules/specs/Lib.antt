-- The rules as definitions: what each public call does, as a function from what it is given and the rooms lent to it to its answer and those rooms after.
-- docs/RULES.md has them in words; R with a number, in the comment of a definition, is its sentence there. Nothing here is a theorem, and nothing is assumed.
--
-- Seven records, and what is made of what:
--   Data        values, targets, listings
--   Given       Data, weights, and the counts of all trees
--   Settings    greatest depth, least leaf, least split, splitter, where the best splitter cuts: as the caller chooses them
--   Params      the settings with the depth as a number, features tried, features: as growth goes by them (params_of in Fit)
--   TreeCall    Shape, Settings, features tried, Given, and two tapes
--   ForestCall  Shape, trees, Settings, Tried, Given, two tapes, and where each tree's part of them starts
--   OneTree     rows, Params, weights, and one tree's counts and tapes: of a TreeCall by one_tree_of in Fit, of tree t of a ForestCall by one_tree_at in Forest
-- From OneTree and Data on both fits are the same: fit in Fit.

-- 0: answers as results, a candidate as an option
pub mod Results
-- 1: a few words on lists and numbers
pub mod Words
-- 2: what is lent
pub mod Lent
-- 3, 4: what is refused
pub mod Checks
pub mod Listing
-- 5 to 9: growth
pub mod Totals
pub mod Threshold
pub mod Draws
pub mod Search
pub mod Growth
-- 10, 11: the two fits
pub mod Fit
pub mod Forest
-- 12 to 14: tables of trees, and their readers
pub mod Table
pub mod Reading
pub mod OutOfBag
-- 15: answers as numbers
pub mod Answers
-- 16: settings and answers as plain structs, as they cross over to Rust and C
pub mod Plain
-- 17, 18: a forest's table as a file
pub mod Bytes
pub mod Model
-- the slices that are lent, as lists
pub mod Slices
