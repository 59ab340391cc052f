use mathlib.Core.Path.{◌≡◌}
use Rattle.theory.specs.Fold.{iter}
use Rattle.operations.proofs.LoadTurns.{run_turn}
use Rattle.operations.proofs.load.load_run.Given as goal

abbrev pub invariant-loop-a : goal.invariant-loop-a
invariant-loop-a l = l.b ≡ iter l.a (run_turn l.scale l.costs 0 l.loaded l.held) l.initial.b
