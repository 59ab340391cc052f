-- The laws of the crate, which callers cite: one file for each idea.
pub mod Entries
pub mod Pushed
pub mod LoadRange
pub mod ClausesRange
pub mod Again
pub mod Written
pub mod Size
