-- Once the line was judged fine, its budget is there to be read.
use mathlib.Core.Path.{sym, ◌∙◌}
use native.Mathlib.Omega.{arith}
use Rattle.kinds.specs.Lines.{search_verdict}
use Rattle.kinds.proofs.Accepted.{search_fine}
use Rattle.kinds.proofs.search.read_search.Goals as goal

pub number_in-requires : goal.number_in-requires
unfolding search_verdict
number_in-requires c =
    omega (arith, (search_fine c.args.frame.line.now (sym c.last_verdict.ensures ∙ c.in_ok-last_verdict.was)).ends)
