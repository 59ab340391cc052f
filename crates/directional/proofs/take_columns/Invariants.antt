use Rattle.std.proofs.Common.{◌≡◌}
use Rattle.theory.specs.Fold.{iter}
use Rattle.directional.specs.Directional.{column_taken}
use Rattle.directional.proofs.take_columns.Given as goal

abbrev pub invariant-loop-x : goal.invariant-loop-x
invariant-loop-x l = l.b ≡ iter l.x (column_taken l.k) l.initial.b
