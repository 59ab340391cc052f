-- Tables that the checker computes, one file each. A row says of a call on a block, whole: the reply, the block that it leaves, and the buffer. Replies and blocks are document 01's or the
-- reference implementation's (tests/README.md, `calls --reference`), which gave all of them again; none was read off the definitions or the program.
--
-- A further table:
-- 1. A file here with its blocks: `held` of a study written out, `refl`. A block that other tables have too goes to specs/Studies; a new part of the block is a field of `Written`. A forbidden entry is written `closed`.
--    The order of the trains is the one that a load sets, or `held_in` gives another.
-- 2. Its rows: `row BLOCK "LINE" "REPLY" BLOCK`, or `declined BLOCK "LINE" "FF .."`; `call` for another buffer.
-- 3. `table_right : Right table`, `unfolding computed` and the file's own names, `table_right = right_by table refl`.
-- A definition that is new on the answer's way is opened in specs/Computed, once. A wrong row is found by cutting the table: of a long one the checker prints no difference. Each row
-- stands alone, so a table may be cut anywhere.
pub mod Rows
pub mod Marked
pub mod Equations
pub mod Refusals
pub mod Readings
pub mod Unequal
pub mod Saves
pub mod GivenBack
pub mod Rounds
pub mod Forbidden
pub mod Clauses
pub mod Reasons
pub mod Steps
pub mod Limits
pub mod BlockLimits
pub mod Order
pub mod Records
pub mod PlanCosts
pub mod Rooms
pub mod Dearest
pub mod Radio
