-- The rule: the answer to a line on a well-formed block, and what a declined one leaves.
pub mod Answer
pub mod Declined
-- What the functions promise by it (`Answers`), and what the private ones, one for each request, ask.
pub mod Wrote
