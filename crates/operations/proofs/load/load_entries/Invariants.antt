use mathlib.Core.Path.{◌≡◌}
use Rattle.theory.specs.Fold.{iter}
use Rattle.tables.specs.Numbers.{numbers_shape}
use Rattle.tables.specs.Counts.{entries_before}
use Rattle.operations.specs.Given.{numbers_lent}
use Rattle.operations.proofs.LoadTurns.{entries_turn}
use Rattle.operations.proofs.load.load_entries.Given as goal

abbrev pub invariant-loop-k : goal.invariant-loop-k
invariant-loop-k l =
    (l.start ≡ entries_before (numbers_shape (numbers_lent l.given)) l.k)
    × (l.b ≡ iter l.k (entries_turn l.given.scale (numbers_shape (numbers_lent l.given)) l.given.entries.now) l.initial.b)
