use Rattle.std.proofs.Common.{◌≡◌}
use Rattle.theory.specs.Fold.{iter}
use Rattle.bounds.specs.Steps.{pair_step}
use Rattle.bounds.proofs.tariff.entries_step.Given as goal

abbrev pub invariant-loop-k : goal.invariant-loop-k
invariant-loop-k l = l.step ≡ iter l.k (pair_step l.study.numbers.now) l.g
