-- a node by what is read of it to add its score
pub mod Nodes
-- loops that add a list up, or write one in place from the front
pub mod Lists
