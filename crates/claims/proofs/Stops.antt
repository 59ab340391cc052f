-- Which answers of searches the rule of the bound changes: after a list of calls every plan's total is s times its cost, and the bound exceeds no plan's cost, so that a plan that meets the bound is
-- one that no plan is below (`search_sooner` in `search`).
use Rattle.search.proofs.Stopping.{search_sooner}
use Rattle.claims.specs.Ledger.{cost_of, ledger_after}
use Rattle.claims.specs.Stops.{SearchesSooner}
use Rattle.claims.proofs.Keeps.{plan_out, bound_low}
use Rattle.claims.proofs.Found.{points}
use Rattle.claims.proofs.After.{after_load}

pub searches_sooner : SearchesSooner
searches_sooner calls y =
    let k = after_load calls y in
    search_sooner k.study (cost_of (ledger_after calls)) (λ x p. (points k x p, bound_low k x (plan_out k x p)))
