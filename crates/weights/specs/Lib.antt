-- Weights, the moves of a rewriting, and rivals by lifts and moves. Nothing stands here besides.
pub mod Weights
pub mod Moves
pub mod Rival
