-- The rule, runs of fields as lists, and quoted text. Nothing stands here besides.
pub mod ByteSum
pub mod Digits
pub mod Fields
pub mod Frames
pub mod Runs
pub mod Text
