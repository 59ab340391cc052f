-- The rule, as moves and as document 01's three equations. Nothing stands here besides.
pub mod Shift
pub mod Equations
