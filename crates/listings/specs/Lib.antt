-- what the checks of a listing ask of their callers
pub mod Asks
-- how a walk along a column goes on, and how it ends
pub mod Walks
