-- The parts of counts and tapes. Nothing is assumed.

-- from where to where each tree has them
pub mod Parts
