-- a node that is not there
pub mod Plain
-- a node read out, as plain numbers
pub mod Nodes
