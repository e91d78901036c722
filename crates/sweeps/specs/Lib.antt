-- What a sweep of a stretch of a column does, and the laws that its proof and its callers need. Nothing is assumed.

-- what it promises and asks
pub mod Swept
-- a front that a loop writes
pub mod Fronts
-- the first rows, by their flags
pub mod First
