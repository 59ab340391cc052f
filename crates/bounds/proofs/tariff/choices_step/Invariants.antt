use Rattle.std.proofs.Common.{◌≡◌}
use Rattle.theory.specs.Fold.{iter}
use Rattle.bounds.specs.Steps.{train_step}
use Rattle.bounds.proofs.tariff.choices_step.Given as goal

abbrev pub invariant-loop-i : goal.invariant-loop-i
invariant-loop-i l = l.step ≡ iter l.i (train_step l.study.numbers.now) 0
