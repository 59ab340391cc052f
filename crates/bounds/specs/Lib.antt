-- The rule: the bound, and the step of the tariff that it is rounded up to.
pub mod Steps
pub mod Bounds
