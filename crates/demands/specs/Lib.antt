-- What the user may rely on, as theorems over the rules: each file states one thing in words, then in symbols, then proves it.

-- demand 1: refusals and rooms
pub mod Refusals
pub mod Refused
pub mod Places
pub mod Listings
pub mod Told
pub mod Rooms
-- demand 3: rows that a tree leaves out
pub mod LeftOut
pub mod Walks
pub mod OutOfBag
pub mod LeftOutTrees
pub mod Calls
-- one outcome of every call
pub mod OneOutcome
-- a forest is its trees
pub mod Parts
pub mod Pieces
pub mod ItsTrees
pub mod FirstBad
pub mod Numbers
-- draws
pub mod DrawsUsed
pub mod ForestDraws
pub mod Splitters
-- growth
pub mod Sides
pub mod Heights
pub mod Filled
pub mod Support
pub mod Limits
pub mod Tried
-- every kept row in one leaf, and why a node is a leaf
pub mod TreesLeft
pub mod Through
pub mod OneLeaf
pub mod LeastLeaf
pub mod Undoing
pub mod Reasons
-- reading
pub mod Means
pub mod Error
pub mod Leaves
pub mod Importances
pub mod Weighted
-- a model file
pub mod SameFile
pub mod SameTable
pub mod FileSize
pub mod FileRefusals
pub mod CutFile
