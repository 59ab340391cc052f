-- The laws of the crate: one file for each idea.
pub mod Spared
pub mod Sums
pub mod Rewritten
pub mod Plans
pub mod Whole
pub mod Ceilings
pub mod Clique
pub mod Alike
pub mod Weighs
pub mod Goes
pub mod Single
pub mod Chain
pub mod Held
pub mod Certified
