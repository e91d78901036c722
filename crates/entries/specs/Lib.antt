-- an entry by what is read of it, and laws of its tests
pub mod Entries
