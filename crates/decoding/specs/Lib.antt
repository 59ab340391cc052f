-- The rule, and nothing besides.
pub mod Numbers
pub mod Clauses
