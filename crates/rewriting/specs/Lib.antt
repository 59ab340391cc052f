-- The rule: the moves, the leasts that are moved, how the end is judged, and 12 as a statement about the end's numbers. Nothing stands here besides.
pub mod Moves
pub mod Leasts
pub mod Judged
pub mod Ends
