use Rattle.std.proofs.Common.{◌≡◌}
use Rattle.theory.specs.Fold.{iter}
use Rattle.rewriting.specs.Leasts.{train_tightened}
use Rattle.tighten.proofs.tighten_trains.Given as goal

abbrev pub invariant-loop-i : goal.invariant-loop-i
invariant-loop-i l = l.b ≡ iter l.i train_tightened l.initial.b
