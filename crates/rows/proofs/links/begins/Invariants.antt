use mathlib.Core.Path.{◌≡◌}
use Prim.Native.Nat.{ℕ, ◌+◌, ◌<◌, ◌≤◌}
use lib.ListN.{length, get_or}
use Rattle.tables.specs.Block.{max_trains}
use Rattle.rows.specs.Listing.{shape_in}
use Rattle.rows.specs.Links.{Begin}
use Rattle.rows.proofs.links.begins.Given as goal

abbrev pub invariant-loop-t : goal.invariant-loop-t
invariant-loop-t l =
    (length l.begins ≡ max_trains + 1)
    × (l.k ≤ (shape_in l.listing).pairs)
    × ((i : ℕ) → i < l.k → (shape_in l.listing).first i < l.t)
    × ((i : ℕ) → i < l.t → Begin (shape_in l.listing) i (get_or l.begins i 0))
