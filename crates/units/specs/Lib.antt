-- The rule, and nothing besides.
pub mod Units
