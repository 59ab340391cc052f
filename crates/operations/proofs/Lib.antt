-- The laws of the crate, which callers cite: one file for each idea.
pub mod Grown
pub mod LoadTurns
pub mod LoadRuns
pub mod Order
pub mod Loaded
pub mod Added
pub mod Examples
