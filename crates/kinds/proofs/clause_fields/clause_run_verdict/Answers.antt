-- The invariant: the clauses so far are fine.
use mathlib.Core.Path.{◌≡◌, sym, ◌∙◌}
use native.Mathlib.Omega.{arith}
use Rattle.std.specs.Prelude.{Err}
use Rattle.std.proofs.Common.{rules}
use Rattle.refusals.specs.Verdicts.{first_of}
use Rattle.refusals.proofs.Verdicts.{first_none, first_more, first_err}
use Rattle.kinds.specs.Clauses.{clause_verdict, clause_run_verdict}
use Rattle.kinds.proofs.clause_fields.clause_run_verdict.Goals as goal

pub loop-k-init : goal.loop-k-init
loop-k-init c = first_none _

pub returns-in_err-clause_verdict : goal.returns-in_err-clause_verdict
unfolding clause_run_verdict
returns-in_err-clause_verdict c =
    let r = c.in_err-clause_verdict.field-0.0 in
    let e : first_of c.args.count (clause_verdict c.args.frame.line.now) ≡ Err r = first_err _ _ c.loop-k.k (omega arith) c.loop-k.invariant (sym c.clause_verdict.ensures ∙ c.in_err-clause_verdict.was) in
    rw e (search rules)

pub loop-k-preserved : goal.loop-k-preserved
loop-k-preserved c = first_more _ c.loop-k.k c.loop-k.invariant (sym c.clause_verdict.ensures ∙ c.in_ok-clause_verdict.was)

pub returns : goal.returns
unfolding clause_run_verdict
returns c =
    let e : c.loop-k.k ≡ c.args.count = omega arith in
    rw (rw e at c.loop-k.invariant, sym c.clause_at.ensures, sym c.bytes.ensures) c.end_verdict.ensures
