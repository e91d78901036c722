-- The trees of a forest in the node room. Nothing is assumed.

-- what is asked of the rooms, and how they are left
pub mod Grown
