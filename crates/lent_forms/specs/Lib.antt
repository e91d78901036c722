-- Totals and a list of waiting nodes, lent and changed where they stand. Nothing is assumed.

-- a push and a pop on every list
pub mod WaitingList
-- the list and the two flat columns that growth is lent agree
pub mod Flat
-- a fit that is lent the list is the fit that is lent the columns
pub mod Fits
