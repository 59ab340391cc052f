use mathlib.Core.Path.{◌≡◌}
use Rattle.theory.specs.Lists.{nth}
use Rattle.operations.specs.Order.{order_stored}
use Rattle.operations.proofs.set_order.set_order.Given as goal

abbrev pub invariant-loop-d : goal.invariant-loop-d
invariant-loop-d l = l.b ≡ order_stored l.d (nth l.order) l.initial.b
