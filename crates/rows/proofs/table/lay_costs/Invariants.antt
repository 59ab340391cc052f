-- The costs of the pairs passed so far are laid.
use Rattle.rows.specs.Listing.{shape_in, costs_in}
use Rattle.rows.specs.Table.{CostsLaid}
use Rattle.rows.proofs.table.lay_costs.Given as goal

abbrev pub invariant-loop-k : goal.invariant-loop-k
invariant-loop-k l = CostsLaid (shape_in l.listing) (costs_in l.listing) l.k l.costs
