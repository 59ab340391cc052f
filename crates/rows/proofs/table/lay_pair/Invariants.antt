use mathlib.Core.Path.{◌≡◌}
use Prim.Native.Nat.{◌*◌}
use lib.ListN.{length}
use Rattle.tables.specs.Block.{max_choices, max_pairs}
use Rattle.rows.specs.Listing.{shape_in, costs_in}
use Rattle.rows.specs.Table.{RowsLaid, CostsLaid}
use Rattle.rows.proofs.table.lay_pair.Given as goal

abbrev pub invariant-loop-c : goal.invariant-loop-c
invariant-loop-c l =
    (length l.costs ≡ max_choices * max_pairs)
    × (CostsLaid (shape_in l.listing) (costs_in l.listing) l.k l.costs × RowsLaid (costs_in l.listing) l.k l.c l.costs)
