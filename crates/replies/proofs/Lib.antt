-- The laws of the crate: one file for each idea.
pub mod Writing
pub mod ReplyFields
pub mod Lengths
pub mod Begins
pub mod ReadBack
pub mod Accepted
