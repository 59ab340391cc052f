-- The laws of the crate, which callers cite: one file for each idea.
pub mod Words
pub mod Runs
pub mod Shape
pub mod Steps
pub mod Turns
pub mod Opens
pub mod LeastOpen
pub mod Falls
pub mod Holds
pub mod Reach
pub mod Kept
pub mod PutBack
pub mod Rewritten
pub mod Judged
