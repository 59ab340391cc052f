use Rattle.std.proofs.Common.{◌≡◌}
use Rattle.theory.specs.Fold.{iter}
use Rattle.bounds.specs.Steps.{row_step}
use Rattle.bounds.proofs.tariff.pair_step.Given as goal

abbrev pub invariant-loop-a : goal.invariant-loop-a
invariant-loop-a l = l.step ≡ iter l.a (row_step l.study.numbers.now l.k) l.g
