-- The rule, and the figures that a reply shows.
pub mod Replies
pub mod Shown
-- What every function that writes a reply promises by it, of the buffer that it is lent.
pub mod Wrote
