use mathlib.Core.Path.{◌≡◌}
use mathlib.Core.Bool.{true}
use Rattle.certificates.specs.Runs.{run_weighted, run_spared}
use Rattle.certificates.proofs.weighing.Weighing.run_weighed.Given as goal

abbrev pub invariant-loop-k : goal.invariant-loop-k
invariant-loop-k l =
    (l.sum ≡ run_weighted l.self.weights.now l.from l.self.study.numbers.now l.place l.k)
    × (run_spared l.self.weights.now l.from l.self.study.numbers.now l.place l.k ≡ true)
