use Rattle.rows.specs.Listing.{shape_in}
use Rattle.rows.specs.Table.{Linked}
use Rattle.rows.proofs.links.rows.Given as goal

abbrev pub invariant-loop-k : goal.invariant-loop-k
invariant-loop-k l = Linked (shape_in l.listing) l.k l.links
