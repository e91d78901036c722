-- The fit of one tree over lent rooms. Nothing is assumed.

-- from the passed checks to the tree, and from the tree to what is left
pub mod Ends
