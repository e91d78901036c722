-- entries that are read at a place where there is one
pub mod Defaults
-- checks passed on by `?`, one after another
pub mod Chains
