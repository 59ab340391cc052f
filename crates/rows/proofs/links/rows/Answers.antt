-- With no pair linked each train has its own row; then one pair after the other is linked.
use native.Mathlib.Omega.{arith}
use Rattle.tables.proofs.Study.{pairs_range}
use Rattle.rows.proofs.Limits.{listing_walkable}
use Rattle.rows.proofs.Laying.{linked_none, linked_more}
use Rattle.rows.proofs.links.rows.Goals as goal

pub loop-k-init : goal.loop-k-init
loop-k-init c = linked_none (listing_walkable c.args.listing.now) c.none-links.ensures

pub loop-k-preserved : goal.loop-k-preserved
loop-k-preserved c =
    rw c.link.ensures (linked_more (listing_walkable c.args.listing.now) (pairs_range c.args.listing.now.ordered.study.held) c.loop-k.k (omega arith) c.loop-k.invariant)
