-- The rule.
pub mod Certify
pub mod Rival
-- What only private functions promise: the rule by runs of weights.
pub mod Runs
