-- The rule, and nothing besides.
pub mod Kinds
pub mod Layout
pub mod Verdicts
pub mod Text
pub mod Asked
