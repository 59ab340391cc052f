-- The laws of the crate: one file for each idea.
pub mod Folds
pub mod Ends
pub mod Leasts
