-- The laws of the crate, which callers cite: one file for each idea.
pub mod Agrees
pub mod Rivals
pub mod Fractions
pub mod Runs
pub mod Ceilings
pub mod Examples
