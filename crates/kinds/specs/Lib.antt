-- The rule, and nothing besides.
pub mod Load
pub mod Clauses
pub mod Records
pub mod Dearest
pub mod Lines
