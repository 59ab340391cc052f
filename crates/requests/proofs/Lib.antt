-- The laws of the crate: one file for each idea.
pub mod Records
pub mod Dearest
pub mod Outcomes
pub mod Ready
pub mod Lengths
pub mod LineCases
pub mod Begins
pub mod Declined
pub mod RecordLines
pub mod DearestLine
