-- the error of the means, row by row, and how the call ends
pub mod Errors
