-- A tree once the checks have passed: set up, grown and told of. Nothing is assumed.

-- what it asks and leaves, and the root that the code lays out
pub mod Plant
-- from the growth's answer to the fit's
pub mod Told
