-- The trains at the places passed so far have their places.
use mathlib.Core.Path.{◌≡◌}
use Prim.Native.Nat.{ℕ, ◌<◌}
use lib.ListN.{length}
use Rattle.theory.specs.Lists.{nth}
use Rattle.tables.specs.Block.{max_trains}
use Rattle.rows.proofs.ordered_study.places_in.Given as goal

abbrev pub invariant-loop-d : goal.invariant-loop-d
invariant-loop-d l = (length l.places ≡ max_trains) × ((e : ℕ) → e < l.d → nth l.places (nth l.order e) ≡ e)
