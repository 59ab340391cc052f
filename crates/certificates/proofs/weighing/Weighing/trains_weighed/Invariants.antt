use mathlib.Core.Path.{◌≡◌}
use mathlib.Core.Bool.{true}
use Rattle.theory.specs.Sum.{sum}
use Rattle.theory.specs.Range.{all}
use Rattle.certificates.specs.Runs.{train_weighted, train_spared}
use Rattle.certificates.proofs.weighing.Weighing.trains_weighed.Given as goal

abbrev pub invariant-loop-i : goal.invariant-loop-i
invariant-loop-i l = let b = l.self.study.numbers.now in
    (l.sum ≡ sum l.i (train_weighted b l.self.weights.now)) × (all l.i (train_spared b l.self.weights.now) ≡ true)
