-- The rows passed so far are laid, and those of the pairs before stay.
use lib.ListN.{length-set}
use Rattle.rows.specs.Listing.{shape_in, costs_in}
use Rattle.rows.proofs.Limits.{listing_few, listing_limited}
use Rattle.rows.proofs.Laying.{rows_more}
use Rattle.rows.proofs.table.lay_pair.Goals as goal

pub loop-c-preserved : goal.loop-c-preserved
loop-c-preserved c =
    let l = c.loop-c in
    let g = c.args.listing.now in
    (simp length-set l.invariant.0, rows_more (shape_in g) (costs_in g) (listing_few g) (listing_limited g).pairs c.args.k l.c l.costs _ c.requires.0 (rw (c.size-c-end.ensures, c.earlier.ensures.value) at c.loop-c-test.true) l.invariant.0 c.cost_row.ensures l.invariant.1)
