use mathlib.Core.Path.{◌≡◌}
use lib.Dec.{eqb}
use mir.Syntax.{w64}
use mir.Val.{of_z}
use Rattle.tables.specs.WellFormed.{from_to}
use Rattle.tables.specs.Rows.{run_within}
use Rattle.tables.proofs.places.all_zero.Given as goal

abbrev pub invariant-loop-z : goal.invariant-loop-z
invariant-loop-z l = eqb (of_z w64 l.joined) 0 ≡ run_within l.b l.from l.z-index (from_to 0 0)
