use mathlib.Core.Path.{◌≡◌}
use mathlib.Core.Bool.{true}
use Rattle.theory.specs.Sum.{sum}
use Rattle.theory.specs.Range.{all}
use Rattle.theory.specs.Lists.{nth}
use Rattle.units.specs.Units.{number_of_points}
use Rattle.tables.specs.Block.{first, second, loaded_entry}
use Rattle.tables.specs.Plans.{shape_of}
use Rattle.records.proofs.HeldChoices.pairs_cost.Given as goal

abbrev pub invariant-loop-k : goal.invariant-loop-k
invariant-loop-k l = let b = l.self.study.numbers.now in let x = nth l.self.choices.now in
    (number_of_points l.sum ≡ sum l.k (λ k. loaded_entry b k (x (first b k)) (x (second b k))))
    × (all l.k (λ k. (shape_of b).entry_open k (x (first b k)) (x (second b k))) ≡ true)
