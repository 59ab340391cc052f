use mathlib.Core.Path.{◌≡◌}
use mathlib.Core.Bool.{true}
use Rattle.theory.specs.Sum.{sum}
use Rattle.theory.specs.Range.{all}
use Rattle.certificates.specs.Runs.{row_weighted, row_spared}
use Rattle.certificates.proofs.weighing.Weighing.pair_weighed.Given as goal

abbrev pub invariant-loop-a : goal.invariant-loop-a
invariant-loop-a l = let b = l.self.study.numbers.now in
    (l.sum ≡ sum l.a (row_weighted b l.self.weights.now l.k)) × (all l.a (row_spared b l.self.weights.now l.k) ≡ true)
