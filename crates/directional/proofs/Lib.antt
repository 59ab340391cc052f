-- The laws of the crate, which callers cite: one file for each idea.
pub mod Trees
pub mod Distances
pub mod Places
pub mod Lanes
pub mod Pair
pub mod Train
pub mod Heights
pub mod Progress
pub mod Turns
pub mod Ends
pub mod Examples
