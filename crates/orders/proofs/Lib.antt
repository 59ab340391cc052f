-- The laws of the crate, which callers cite: one file for each idea.
pub mod Ordered
pub mod ByTrain
pub mod Sorting
pub mod Listed
pub mod Loaded
