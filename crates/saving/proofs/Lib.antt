-- The laws of the crate: one file for each idea.
pub mod Writing
pub mod Together
pub mod SavedLines
