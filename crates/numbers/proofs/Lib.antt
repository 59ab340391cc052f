-- The laws of the crate, which callers cite: one file for each idea.
pub mod Saved
