-- A pair's costs at a choice of its earlier train stand in a row of its entries, or in a column where it is turned over.
use Rattle.rows.proofs.Laying.{straight_row, turned_row}
use Rattle.std.proofs.Common.{sym, ◌∙◌}
use Rattle.rows.proofs.table.cost_row.Goals as goal

pub returns-then-is_turned : goal.returns-then-is_turned
returns-then-is_turned c =
    turned_row c.args.listing.now c.args.k c.args.c (sym c.is_turned.ensures ∙ c.if-is_turned.true) (rw c.entry_place.ensures at c.walled_column.ensures)

pub returns-else-is_turned : goal.returns-else-is_turned
returns-else-is_turned c =
    straight_row c.args.listing.now c.args.k c.args.c (sym c.is_turned.ensures ∙ c.if-is_turned.false) (rw c.entry_place-else-is_turned.ensures at c.walled_row.ensures)
