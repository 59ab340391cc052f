-- The rule.
pub mod Dearest
-- What is level in the study: its search drops no try before the last train.
pub mod Levels
