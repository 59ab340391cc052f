use mathlib.Core.Path.{◌≡◌}
use Rattle.refusals.specs.Verdicts.{Fine, first_of}
use Rattle.kinds.specs.Clauses.{clause_verdict}
use Rattle.kinds.proofs.clause_fields.clause_run_verdict.Given as goal

abbrev pub invariant-loop-k : goal.invariant-loop-k
invariant-loop-k l = first_of l.k (clause_verdict l.frame.line.now) ≡ Fine
