-- A model file checked. Nothing is assumed.

-- what is seen of nodes, of trees and of all
pub mod Seen
