-- a row's walk, and what it asks
pub mod Walks
-- a step that stays at a leaf
pub mod Steps
-- six rows side by side
pub mod Sixes
-- a tree's own part of the columns
pub mod Parts
