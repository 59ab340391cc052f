-- The rule: what is printed on a whole input.
pub mod Session
-- What the functions promise by it, of an input that comes in parts.
pub mod Parts
pub mod Steps
