use Rattle.std.proofs.Common.{◌≡◌}
use Rattle.theory.specs.Fold.{iter}
use Rattle.tables.specs.Block.{loaded_choice}
use Rattle.bounds.specs.Steps.{gcd}
use Rattle.bounds.proofs.tariff.train_step.Given as goal

abbrev pub invariant-loop-a : goal.invariant-loop-a
invariant-loop-a l = l.step ≡ iter l.a (λ a. gcd (loaded_choice l.study.numbers.now l.i a)) l.g
