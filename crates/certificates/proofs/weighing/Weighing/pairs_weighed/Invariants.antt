use mathlib.Core.Path.{◌≡◌}
use mathlib.Core.Bool.{true}
use Rattle.theory.specs.Sum.{sum}
use Rattle.theory.specs.Range.{all}
use Rattle.certificates.specs.Runs.{entries_from, pair_weighted, pair_spared}
use Rattle.certificates.proofs.weighing.Weighing.pairs_weighed.Given as goal

abbrev pub invariant-loop-k : goal.invariant-loop-k
invariant-loop-k l = let b = l.self.study.numbers.now in
    (l.from ≡ entries_from b l.k) × (l.sum ≡ sum l.k (pair_weighted b l.self.weights.now)) × (all l.k (pair_spared b l.self.weights.now) ≡ true)
