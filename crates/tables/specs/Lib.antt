-- The rule.
pub mod Block
pub mod LineLimits
pub mod WellFormed
pub mod Known
pub mod Plans
pub mod Counts
pub mod Numbers
-- What only private functions promise: `well_formed` row by row.
pub mod Rows
