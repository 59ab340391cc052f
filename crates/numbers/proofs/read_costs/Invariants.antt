use mathlib.Core.Path.{◌≡◌}
use mathlib.Core.List.{◌++◌}
use Prim.Native.Nat.{◌+◌}
use Rattle.theory.specs.Lists.{list_of}
use Rattle.tables.specs.Block.{at}
use Rattle.operations.specs.Saved.{saved_cost}
use Rattle.numbers.proofs.read_costs.Given as goal

abbrev pub invariant-loop-a : goal.invariant-loop-a
invariant-loop-a g l = l.costs.items ≡ l.initial.costs.items ++ list_of l.a (λ a. saved_cost (at l.b (l.from + a)))
