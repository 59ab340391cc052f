use mathlib.Core.Path.{◌≡◌}
use Rattle.theory.specs.Lists.{list_of}
use Rattle.dearest.specs.Dearest.{dearest_cost}
use Rattle.dearest.proofs.list_costs.Given as goal

abbrev pub invariant-loop-o : goal.invariant-loop-o
invariant-loop-o l = l.costs.items ≡ list_of l.o (dearest_cost l.sizes)
