-- The costs so far are those of the cells so far.
use Rattle.std.proofs.Common.{ℕ, ◌≡◌, ◌<◌, length}
use Rattle.theory.specs.Lists.{nth}
use Rattle.clauses.proofs.loads.list_cells.Given as goal

abbrev pub invariant-loop-o : goal.invariant-loop-o
invariant-loop-o g l = (length l.costs.items ≡ l.o) × ((k : ℕ) → k < l.o → (p : ℕ) × goal.F-post g l.cell k p × (nth l.costs.items k ≡ nth l.cells p))
