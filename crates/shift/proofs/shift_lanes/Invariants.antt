use Rattle.std.proofs.Common.{◌≡◌, ◌+◌}
use Rattle.theory.specs.Fold.{iter}
use Rattle.tables.specs.Block.{at}
use Rattle.rewriting.specs.Moves.{project}
use Rattle.shift.proofs.shift_lanes.Given as goal

abbrev pub invariant-loop-x : goal.invariant-loop-x
invariant-loop-x l = l.b ≡ iter l.x (λ y. project l.side l.k y (at l.moves.numbers.now (l.start + y))) l.initial.b
