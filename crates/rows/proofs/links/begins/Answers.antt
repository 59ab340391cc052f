-- The entries written so far are right, and the next place's pairs begin no earlier than this one's.
use native.Mathlib.Omega.{arith}
use lib.ListN.{length-set}
use Rattle.tables.proofs.Study.{trains_range}
use Rattle.rows.specs.Listing.{shape_in}
use Rattle.rows.specs.Links.{Begin}
use Rattle.rows.proofs.Laying.{set_more}
use Rattle.rows.proofs.links.begins.Goals as goal

pub loop-t-preserved : goal.loop-t-preserved
loop-t-preserved c =
    let l = c.loop-t in
    let g = c.begin-k.ensures in
    (simp length-set l.invariant.0, g.high, (λ i h. omega (arith, g.before i h)), set_more (Begin (shape_in c.args.listing.now)) l.begins 0 _ l.t (omega (arith, trains_range c.args.listing.now.ordered.study.held)) l.invariant.3 g)
