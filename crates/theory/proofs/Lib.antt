-- The laws of the crate, which callers cite: one file for each idea.
pub mod Range
pub mod First
pub mod Sum
pub mod Product
pub mod Tries
pub mod Whole
pub mod Fold
pub mod Turns
pub mod Lists
pub mod Joined
pub mod Order
pub mod Chains
