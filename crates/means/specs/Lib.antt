-- a result room rewritten from its front on
pub mod Rows
-- a forest's sums and means
pub mod Sums
-- the checks of the calls that take means
pub mod Means
