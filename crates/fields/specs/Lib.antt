-- A model file's fields as the code answers them. Nothing is assumed.

pub mod Fields
