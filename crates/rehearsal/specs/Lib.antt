-- The rehearsal table of docs/RULES.md: the calls of its examples, what they leave, and one theorem that says so, by computation; and the two corners of the threshold
pub mod TableCalls
pub mod Rehearsal
-- a model file, byte by byte
pub mod ModelFile
-- why each node of its trees is a leaf or a split
pub mod Reasons
