use mathlib.Core.Path.{◌≡◌}
use Rattle.theory.specs.Fold.{iter}
use Rattle.operations.proofs.LoadTurns.{order_turn}
use Rattle.operations.proofs.load.load_order.Given as goal

abbrev pub invariant-loop-d : goal.invariant-loop-d
invariant-loop-d l = l.b ≡ iter l.d order_turn l.initial.b
