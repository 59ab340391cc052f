-- The rule.
pub mod Directional
-- What only private functions ask: how high costs may be on the way.
pub mod Heights
