use Rattle.std.proofs.Common.{◌≡◌}
use Rattle.theory.specs.Fold.{iter}
use Rattle.tables.specs.Block.{at}
use Rattle.rewriting.specs.Moves.{project_unary}
use Rattle.shift.proofs.lift_trains.Given as goal

abbrev pub invariant-loop-i : goal.invariant-loop-i
invariant-loop-i l = l.b ≡ iter l.i (λ i. project_unary i (at l.lifts.numbers.now i)) l.initial.b
