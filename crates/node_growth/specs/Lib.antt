-- A node in the lent rooms: what the rooms stand for, and the laws that the steps on one node cite. Nothing is assumed.

-- the numbers of those that join
pub mod Numbers
-- the rooms, and what each step promises of them
pub mod Rooms
-- the waiting list by the code's steps
pub mod Steps
-- two nodes side by side, and their searches one after the other
pub mod Pairs
-- a node's stretch of the columns, and what a good node gives the code
pub mod InColumns
-- a split node's children
pub mod Sides
