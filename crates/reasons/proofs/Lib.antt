-- The laws of the crate: one file for each idea.
pub mod Found
pub mod Reasons
pub mod Costs
