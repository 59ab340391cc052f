use mathlib.Core.Path.{◌≡◌}
use Prim.Native.Nat.{ℕ, ◌<◌}
use lib.ListN.{length}
use Rattle.tables.specs.Block.{max_choices}
use Rattle.rows.specs.Listing.{costs_in}
use Rattle.rows.specs.Links.{row_count}
use Rattle.rows.specs.Table.{sum_at}
use Rattle.rows.proofs.sums.lay_own.Given as goal

abbrev pub invariant-loop-d : goal.invariant-loop-d
invariant-loop-d l = (length l.rows ≡ row_count) × ((i a : ℕ) → i < l.d → a < max_choices → sum_at l.rows i a ≡ (costs_in l.listing).choice i a)
