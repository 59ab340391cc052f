use mathlib.Core.Path.{◌≡◌}
use Rattle.theory.specs.Lists.{list_of}
use Rattle.tables.specs.Block.{size}
use Rattle.numbers.proofs.read_sizes.Given as goal

abbrev pub invariant-loop-i : goal.invariant-loop-i
invariant-loop-i l = l.sizes.items ≡ list_of l.i (size l.study.numbers.now)
