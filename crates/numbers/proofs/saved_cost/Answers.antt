-- −1 is the number of a forbidden entry, and any other number of H is its own.
use mathlib.Core.Path.{sym, ◌∙◌}
use Rattle.numbers.proofs.Saved.{cost_open, cost_closed}
use Rattle.numbers.proofs.saved_cost.Goals as goal

pub returns-then-not-is_open : goal.returns-then-not-is_open
returns-then-not-is_open c = cost_closed c.args.b.now c.args.p (sym c.if-not-is_open.ensures)

pub returns : goal.returns
returns c = c.get.ensures ∙ cost_open c.args.b.now c.args.p (sym c.if-not-is_open.ensures)
