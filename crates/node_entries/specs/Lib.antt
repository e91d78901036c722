-- What stands at one place of the rooms of a growth: a waiting node, and a node's entry. Nothing is assumed.

-- a waiting node in its two arrays, a node in the eight columns, and a split as it is written
pub mod Entries
-- the laws of writing them
pub mod Writes
-- the eight columns hold a tree's nodes: one is changed, one is added, and all are written as the rules write them
pub mod Nodes
