-- Growth in the lent rooms: a turn searches what is left to search and splits the node that joined last, and turns make up a tree. Nothing is assumed.

-- where a growth is within a turn, and what a split promises
pub mod Places
-- a split, with the searches of its children, is one step of the definition's waiting list
pub mod Turns
-- what is known before a turn, between its halves, and before the next
pub mod Halves
-- the loop
pub mod Loop
-- the whole from the root on
pub mod Tree
