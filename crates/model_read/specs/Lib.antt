-- A model file read into rooms. Nothing is assumed.

-- the nodes of one tree, then the trees
pub mod Nodes
pub mod Trees
-- the call
pub mod Calls
