-- What is told of a tree. Nothing is assumed.

-- from the growth's answer to the fit's
pub mod Report
