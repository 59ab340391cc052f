-- The laws of the crate: one file for each idea.
pub mod Digits
pub mod Forms
pub mod Lines
pub mod Replies
pub mod Writing
pub mod Cases
