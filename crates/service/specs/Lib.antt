-- The rule: the answer to a call, and lists of calls.
pub mod Answer
pub mod Calls
