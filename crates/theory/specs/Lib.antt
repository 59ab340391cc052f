-- Small theories that the rules are written with: there is nothing of a study in them, and no code.
pub mod Sum
pub mod Product
pub mod Tries
pub mod Whole
pub mod Range
pub mod First
pub mod Order
pub mod Fold
pub mod Lists
