-- The laws of the crate: one file for each idea.
pub mod Rooms
pub mod Ends
pub mod Equations
