-- whether a row is out of a tree's bag, and out of how many
pub mod Bags
