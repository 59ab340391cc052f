-- The laws of the crate: Euclid, the step of the tariff, the bound in steps, and the bound beside the plans of the study.
pub mod Euclid
pub mod Steps
pub mod Rounded
pub mod Plans
pub mod Examples
