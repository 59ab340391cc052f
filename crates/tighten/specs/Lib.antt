-- The rule, as moves and as what stands afterwards. Nothing stands here besides.
pub mod Tighten
pub mod Leasts
