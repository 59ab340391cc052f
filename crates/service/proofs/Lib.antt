-- The laws of the crate: one file for each idea.
pub mod AnswerCases
pub mod Answers
pub mod Calls
pub mod Lists
