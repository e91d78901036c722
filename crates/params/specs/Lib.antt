-- What a tree grows by. Nothing is assumed.

-- the settings of a call, with the depth as a number
pub mod Params
