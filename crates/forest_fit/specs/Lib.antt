-- The fit of a forest over lent rooms. Nothing is assumed.

-- from what the trees leave to the outcome
pub mod Ends
-- from the passed checks to what the trees ask
pub mod Asks
