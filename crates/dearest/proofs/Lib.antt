-- The laws of the crate: how many choices are tried, and the dearest study, loaded.
pub mod Within
pub mod Costs
pub mod Loaded
