-- Rooms that are lent. Nothing is assumed.

-- filled with zero
pub mod Zero
-- long enough for a fit
pub mod Enough
