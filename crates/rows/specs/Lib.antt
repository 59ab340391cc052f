-- What the contracts of the crate cite: what places count, the shape and the costs of a listing, what is asked of such, what choices come to, the table, its rows, and what they hold.
pub mod Walled
pub mod Sorted
pub mod Listing
pub mod Limits
pub mod Added
pub mod Links
pub mod Table
pub mod Sums
