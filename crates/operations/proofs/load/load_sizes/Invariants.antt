use mathlib.Core.Path.{◌≡◌}
use Rattle.theory.specs.Fold.{iter}
use Rattle.operations.proofs.LoadTurns.{size_turn}
use Rattle.operations.proofs.load.load_sizes.Given as goal

abbrev pub invariant-loop-i : goal.invariant-loop-i
invariant-loop-i l = l.b ≡ iter l.i (size_turn l.sizes) l.initial.b
