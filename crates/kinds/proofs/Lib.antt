-- The laws of the crate, which callers cite: one file for each idea.
pub mod LoadFields
pub mod LoadAccepted
pub mod Accepted
pub mod ClausesAccepted
pub mod RecordsAccepted
pub mod DearestAccepted
