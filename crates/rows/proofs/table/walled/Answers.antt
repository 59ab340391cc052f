-- An open place counts its number, any other the wall.
use mathlib.Core.Path.{sym, ◌∙◌}
use native.Mathlib.Omega.{arith}
use Rattle.tables.proofs.Limits.{open_natural}
use Rattle.rows.proofs.Walled.{walled_read, walled_stop}
use Rattle.rows.proofs.table.walled.Goals as goal

pub natural-requires : goal.natural-requires
natural-requires c =
    (omega arith, open_natural _ _ (sym c.is_open.ensures ∙ c.if-is_open.true))

pub returns-then-is_open : goal.returns-then-is_open
returns-then-is_open c =
    let a = c.args in
    c.natural.ensures ∙ sym (walled_read a.b.now a.p c.is_open.ensures c.if-is_open.true)

pub returns-else-is_open : goal.returns-else-is_open
returns-else-is_open c =
    let a = c.args in
    sym (walled_stop a.b.now a.p c.is_open.ensures c.if-is_open.false)
