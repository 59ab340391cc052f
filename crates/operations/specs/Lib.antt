-- The rule, and nothing besides.
pub mod Order
pub mod Load
pub mod Add
pub mod Saved
pub mod Given
