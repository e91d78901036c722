-- The checks of a forest's fit. Nothing is assumed.

-- a refusal, or what is to be grown
pub mod Ready
