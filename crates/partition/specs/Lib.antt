-- Where the front of a stretch ends, and that a partition leaves it where it is. Nothing is assumed.

-- what a look along a stretch promises and asks
pub mod Looks
-- a front that stays
pub mod Stays
