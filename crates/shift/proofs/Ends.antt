-- A shift is a chain of moves: what every rewriting keeps, it keeps (proofs/Rewritten.antt of `rewriting`, proofs/Held.antt of `weights`).
use mathlib.Core.List.{List}
use lib.IntN.{ℤ}
use Rattle.tables.specs.WellFormed.{Study}
use Rattle.rewriting.proofs.Shape.{study_shape_in_range, Moved, all_moves, Any}
use Rattle.shift.specs.Shift.{shifted}
use Rattle.shift.proofs.Rooms.{shift_moved}

pub shift_rewrites : {b : List ℤ} → Study b → (lifts moves : List ℤ) → Moved Any b all_moves (shifted lifts moves b)
shift_rewrites s lifts moves = shift_moved (study_shape_in_range s) lifts moves (λ r x i. tt) (λ r x i. tt)
