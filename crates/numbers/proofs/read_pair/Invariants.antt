use mathlib.Core.Path.{◌≡◌}
use mathlib.Core.List.{◌++◌}
use Rattle.theory.specs.Lists.{joined}
use Rattle.operations.specs.Saved.{row_costs}
use Rattle.numbers.proofs.read_pair.Given as goal

abbrev pub invariant-loop-a : goal.invariant-loop-a
invariant-loop-a l = l.entries.items ≡ l.initial.entries.items ++ joined l.a (row_costs l.study.numbers.now l.k)
