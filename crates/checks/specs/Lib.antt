-- what is lent, by the lengths that the checks know of it
pub mod Lent
-- node room by kept rows
pub mod Rooms
-- what passed checks say to the next, and a fit's tests by what its checks are handed
pub mod Verdicts
-- what the checks ask of their callers
pub mod Asks
