-- The laws of the crate: at most so many tries; a level study, in which no try is dropped early; and the dearest study, which is one.
pub mod Most
pub mod Level
pub mod Dearest
pub mod Examples
