-- The laws of the crate, which callers cite: one file for each idea.
pub mod LineAccepted
pub mod LineKind
pub mod LineRefused
