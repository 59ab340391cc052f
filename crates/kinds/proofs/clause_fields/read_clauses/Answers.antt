-- Once the line was judged fine, its fields are there to be read.
use mathlib.Core.Path.{sym, ◌∙◌}
use native.Mathlib.Omega.{arith}
use Rattle.refusals.proofs.Verdicts.{then_fine}
use Rattle.kinds.specs.Load.{head_verdict}
use Rattle.kinds.specs.Clauses.{clauses_verdict}
use Rattle.kinds.proofs.ClausesAccepted.{FineClauses, clauses_fine}
use Rattle.kinds.proofs.clause_fields.read_clauses.Goals.{In_ok-clauses_verdict}
use Rattle.kinds.proofs.clause_fields.read_clauses.Goals as goal

fine : (c : In_ok-clauses_verdict) → FineClauses c.args.frame.line.now
fine c = clauses_fine c.args.frame.line.now (sym c.clauses_verdict.ensures ∙ c.in_ok-clauses_verdict.was)

pub number_in-requires : goal.number_in-requires
number_in-requires c = omega (arith, (fine (goal.at.number_in-requires c).In_ok-clauses_verdict).there)

pub scale-requires : goal.scale-requires
unfolding clauses_verdict
scale-requires c = (then_fine (head_verdict c.args.frame.line.now) _ (sym c.clauses_verdict.ensures ∙ c.in_ok-clauses_verdict.was)).0

pub number_in-requires-2 : goal.number_in-requires-2
number_in-requires-2 c = omega (arith, (fine (goal.at.number_in-requires-2 c).In_ok-clauses_verdict).there)
