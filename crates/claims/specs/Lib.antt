-- The rule: demand 3, of calls by the definition of the answer and of calls as a caller saw them, a saved line and a load, what a round leaves, what stays forbidden, which searches end sooner, that
-- bounds are in steps of the tariff, that two rooms reach equal ceilings, how many choices a search tries, and what a declined call leaves. There is no code.
pub mod Ledger
pub mod OnePlan
pub mod Claims
pub mod Seen
pub mod Saves
pub mod Rounds
pub mod Forbidden
pub mod Stops
pub mod Steps
pub mod Orders
pub mod Records
pub mod Rooms
pub mod Dearest
pub mod Radio
pub mod Declined
