-- The rule, and nothing besides.
pub mod Refusals
pub mod Verdicts
