use mathlib.Core.Path.{◌≡◌}
use Rattle.theory.specs.Lists.{nth}
use Rattle.theory.specs.Sum.{sum}
use Rattle.dearest.proofs.choices_before.Given as goal

abbrev pub invariant-loop-j : goal.invariant-loop-j
invariant-loop-j l = l.count ≡ sum l.j (nth l.sizes)
