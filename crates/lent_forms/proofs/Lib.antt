-- Laws of the two forms that rest on how a push is defined.
pub mod Pushes
