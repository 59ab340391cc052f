-- The laws of the crate, which callers cite: one file for each idea.
pub mod KindNumbers
pub mod Judged
pub mod Obeyed
pub mod Pairs
pub mod Records
