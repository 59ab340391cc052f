-- One place's size more.
use native.Mathlib.Omega.{arith}
use Rattle.std.proofs.Common.{◌≡◌}
use lib.ListN.{length-set}
use Rattle.tables.proofs.Study.{trains_range}
use Rattle.rows.specs.Listing.{shape_in}
use Rattle.rows.proofs.Laying.{set_more}
use Rattle.rows.proofs.table.sizes.Goals as goal

pub loop-d-preserved : goal.loop-d-preserved
loop-d-preserved c =
    let l = c.loop-d in
    let g = c.args.listing.now in
    (simp length-set l.invariant.0, set_more (λ d v. v ≡ (shape_in g).size d) l.sizes 0 _ l.d (omega (arith, trains_range g.ordered.study.held, l.invariant.0)) l.invariant.1 c.size.ensures)
