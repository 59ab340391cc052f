use mathlib.Core.Path.{◌≡◌}
use Rattle.theory.specs.Lists.{joined}
use Rattle.operations.specs.Saved.{pair_costs}
use Rattle.numbers.proofs.read_entries.Given as goal

abbrev pub invariant-loop-k : goal.invariant-loop-k
invariant-loop-k l = l.entries.items ≡ joined l.k (pair_costs l.study.numbers.now)
