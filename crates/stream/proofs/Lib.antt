-- The laws of the crate: one file for each idea.
pub mod Lines
pub mod Steps
pub mod Over
pub mod Whole
pub mod Examples
