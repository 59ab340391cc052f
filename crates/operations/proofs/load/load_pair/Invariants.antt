use mathlib.Core.Path.{◌≡◌}
use Prim.Native.Nat.{◌+◌, ◌*◌}
use Rattle.theory.specs.Fold.{iter}
use Rattle.operations.proofs.LoadTurns.{row_turn}
use Rattle.operations.proofs.load.load_pair.Given as goal

abbrev pub invariant-loop-a : goal.invariant-loop-a
invariant-loop-a l =
    (l.start ≡ l.from + l.columns * l.a)
    × (l.b ≡ iter l.a (row_turn l.given.scale l.given.entries.now l.from l.columns l.k) l.initial.b)
