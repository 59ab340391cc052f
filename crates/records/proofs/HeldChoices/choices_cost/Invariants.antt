use mathlib.Core.Path.{◌≡◌}
use mathlib.Core.Bool.{true}
use Rattle.theory.specs.Sum.{sum}
use Rattle.theory.specs.Range.{all}
use Rattle.theory.specs.Lists.{nth}
use Rattle.units.specs.Units.{number_of_points}
use Rattle.tables.specs.Block.{loaded_choice}
use Rattle.tables.specs.Plans.{shape_of}
use Rattle.records.proofs.HeldChoices.choices_cost.Given as goal

abbrev pub invariant-loop-i : goal.invariant-loop-i
invariant-loop-i l = let b = l.self.study.numbers.now in let x = nth l.self.choices.now in
    (number_of_points l.sum ≡ sum l.i (λ i. loaded_choice b i (x i))) × (all l.i (λ i. (shape_of b).choice_open i (x i)) ≡ true)
