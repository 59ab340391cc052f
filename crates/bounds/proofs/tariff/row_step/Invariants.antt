use Rattle.std.proofs.Common.{◌≡◌}
use Rattle.theory.specs.Fold.{iter}
use Rattle.tables.specs.Block.{loaded_entry}
use Rattle.bounds.specs.Steps.{gcd}
use Rattle.bounds.proofs.tariff.row_step.Given as goal

abbrev pub invariant-loop-c : goal.invariant-loop-c
invariant-loop-c l = l.step ≡ iter l.c (λ c. gcd (loaded_entry l.study.numbers.now l.k l.a c)) l.g
