-- Product and sum of the sizes so far are within the limit.
use Rattle.theory.specs.Lists.{nth}
use Rattle.dearest.proofs.Within.{SoFar}
use Rattle.dearest.proofs.tries_within.Given as goal

abbrev pub invariant-loop-size : goal.invariant-loop-size
invariant-loop-size l = SoFar (nth l.sizes) l.size-index l.plans l.tries
