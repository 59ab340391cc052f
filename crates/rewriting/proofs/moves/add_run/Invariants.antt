-- Every turn meets a place of its own, so that no number grows by more than z: the sums fit.
use Rattle.std.proofs.Common.{◌≡◌}
use Rattle.rewriting.specs.Moves.{add_run}
use Rattle.rewriting.proofs.Runs.{front}
use Rattle.rewriting.proofs.moves.add_run.Given as goal

abbrev pub invariant-loop-i : goal.invariant-loop-i
invariant-loop-i l = l.b ≡ add_run (front l.i l.run) l.z l.initial.b
