-- The laws of the crate, which callers cite.
pub mod Verdicts
