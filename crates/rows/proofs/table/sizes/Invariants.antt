-- The sizes of the places passed so far are written.
use mathlib.Core.Path.{◌≡◌}
use Prim.Native.Nat.{ℕ, ◌<◌}
use lib.ListN.{length, get_or}
use Rattle.tables.specs.Block.{max_trains}
use Rattle.rows.specs.Listing.{shape_in}
use Rattle.rows.proofs.table.sizes.Given as goal

abbrev pub invariant-loop-d : goal.invariant-loop-d
invariant-loop-d l = (length l.sizes ≡ max_trains) × ((d : ℕ) → d < l.d → get_or l.sizes d 0 ≡ (shape_in l.listing).size d)
