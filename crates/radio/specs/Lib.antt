-- The rule: the second form of lines and of replies, and the answer to a line in either form.
pub mod Forms
pub mod Answer
