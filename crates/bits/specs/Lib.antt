-- what a float is written as, and laws of bytes met one at a time
pub mod Bits
