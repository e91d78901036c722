-- what the checks of a table ask, and what they settle
pub mod Table
-- laws of the table check, of starts that rise, and of a node read out
pub mod Laws
