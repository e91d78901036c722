-- the entries of a tree, and the trees of a forest, one after another
pub mod Scores
-- the calls: what their checks have settled, and what they answer
pub mod Calls
