-- What a table says: lines, replies and blocks as they are written, calls, sessions, and the costs of plans. There is no code.
pub mod Written
pub mod Calls
pub mod Studies
pub mod Sessions
pub mod PlanCosts
-- What the checker opens to compute a table.
pub mod Computed
