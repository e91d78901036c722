-- how many bytes a table takes
pub mod Sizes
-- what is put where, node by node and tree by tree
pub mod Puts
-- what passed checks say, and how the two calls end
pub mod Calls
