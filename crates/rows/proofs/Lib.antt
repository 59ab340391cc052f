-- The laws of the crate, which callers cite: one file for each idea.
pub mod Walled
pub mod Limits
pub mod Written
pub mod Placing
pub mod Laying
pub mod Rows
