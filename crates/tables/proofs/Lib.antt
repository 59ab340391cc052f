-- The laws of the crate, which callers cite: one file for each idea.
pub mod Signed
pub mod Limits
pub mod Mates
pub mod Rows
pub mod Order
pub mod Study
pub mod Apart
pub mod Plans
pub mod Held
pub mod Counting
pub mod Prices
