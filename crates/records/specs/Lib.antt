-- The rule.
pub mod Records
-- What the functions promise of the parts of a plan's cost.
pub mod Parts
