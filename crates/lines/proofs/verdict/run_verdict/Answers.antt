-- The first field that is not fine ends the loop.
use mathlib.Core.Path.{sym, ◌∙◌}
use native.Mathlib.Omega.{arith}
use Rattle.std.proofs.lemmas.Grind.{common_steps}
use Rattle.refusals.proofs.Verdicts.{first_err}
use Rattle.lines.specs.Layout.{further}
use Rattle.lines.specs.Verdicts.{field_verdict}
use Rattle.lines.proofs.verdict.run_verdict.Goals as goal

pub returns-in_err-field_verdict : goal.returns-in_err-field_verdict
returns-in_err-field_verdict c =
    let a = c.args in
    let e = rw c.further.ensures at (sym c.field_verdict.ensures ∙ c.in_err-field_verdict.was) in
    grind (arith, common_steps, first_err (λ k. field_verdict a.frame.line.now (further a.f k)) a.count c.loop-k.k (omega arith) c.loop-k.invariant e)
