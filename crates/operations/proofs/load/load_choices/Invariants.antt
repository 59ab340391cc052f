use mathlib.Core.Path.{◌≡◌}
use Rattle.theory.specs.Fold.{iter}
use Rattle.tables.specs.Numbers.{numbers_shape}
use Rattle.tables.specs.Counts.{choices_before}
use Rattle.operations.specs.Given.{numbers_lent}
use Rattle.operations.proofs.LoadTurns.{train_turn}
use Rattle.operations.proofs.load.load_choices.Given as goal

abbrev pub invariant-loop-i : goal.invariant-loop-i
invariant-loop-i l =
    (l.start ≡ choices_before (numbers_shape (numbers_lent l.given)) l.i)
    × (l.b ≡ iter l.i (train_turn l.given.scale (numbers_shape (numbers_lent l.given)) l.given.choices.now) l.initial.b)
