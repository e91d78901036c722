-- what passed tests say
pub mod Passed
-- a result room written from its front on
pub mod Front
