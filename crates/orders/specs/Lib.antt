-- The rule.
pub mod Ordered
-- The same study with its pairs in a list, and how such a list is sorted.
pub mod Listed
