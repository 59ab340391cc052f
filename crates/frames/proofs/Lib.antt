-- The laws of the crate, which callers cite: one file for each idea.
pub mod Ascii
pub mod Bytes
pub mod Widths
pub mod RoundTrip
pub mod Sums
pub mod RunDigits
pub mod Stands
pub mod There
pub mod Front
pub mod Parts
