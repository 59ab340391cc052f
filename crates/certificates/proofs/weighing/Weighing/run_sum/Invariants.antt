-- The sum so far is that of the weights passed, each of which is below 2^24.
use mathlib.Core.Path.{◌≡◌}
use Prim.Native.Nat.{◌*◌, ◌≤◌}
use Rattle.certificates.specs.Certify.{weights_below}
use Rattle.certificates.specs.Runs.{run_sum}
use Rattle.certificates.proofs.weighing.Weighing.run_sum.Given as goal

abbrev pub invariant-loop-k : goal.invariant-loop-k
invariant-loop-k l = (l.sum ≡ run_sum l.self.weights.now l.from l.step l.k) × (l.sum ≤ weights_below * l.k)
