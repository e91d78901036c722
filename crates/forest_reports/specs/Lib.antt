-- What a forest tells of its trees. Nothing is assumed.

-- the start table and the report columns
pub mod Reports
