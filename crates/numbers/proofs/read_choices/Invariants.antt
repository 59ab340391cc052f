use mathlib.Core.Path.{◌≡◌}
use Rattle.theory.specs.Lists.{joined}
use Rattle.operations.specs.Saved.{train_costs}
use Rattle.numbers.proofs.read_choices.Given as goal

abbrev pub invariant-loop-i : goal.invariant-loop-i
invariant-loop-i l = l.choices.items ≡ joined l.i (train_costs l.study.numbers.now)
