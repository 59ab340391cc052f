-- The laws of the crate, which callers cite: what a plan costs, and what is right of a record.
pub mod Costs
pub mod Right
