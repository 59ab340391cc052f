use mathlib.Core.Path.{◌≡◌}
use mathlib.Core.Bool.{true}
use Rattle.theory.specs.Range.{all}
use Rattle.certificates.specs.Runs.{entries_from, pair_matches}
use Rattle.certificates.proofs.weighing.Weighing.pairs_match.Given as goal

abbrev pub invariant-loop-k : goal.invariant-loop-k
invariant-loop-k l = let b = l.self.study.numbers.now in
    (l.from ≡ entries_from b l.k) × (all l.k (pair_matches b l.self.weights.now) ≡ true)
