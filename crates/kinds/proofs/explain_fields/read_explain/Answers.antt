-- Once the line was judged fine, its three fields are there to be read.
use mathlib.Core.Path.{◌≡◌, sym, ◌∙◌}
use native.Mathlib.Omega.{arith}
use Rattle.frames.specs.Digits.{bytes}
use Rattle.lines.specs.Layout.{end_of, limit_field}
use Rattle.kinds.proofs.Accepted.{choice_fine}
use Rattle.kinds.proofs.explain_fields.read_explain.Goals.{In_ok-choice_verdict}
use Rattle.kinds.proofs.explain_fields.read_explain.Goals as goal

ends : (c : In_ok-choice_verdict) → bytes c.args.frame.line.now ≡ end_of limit_field
ends c =
    let a = c.args in
    (choice_fine a.frame.line.now a.study.numbers.now limit_field (sym c.choice_verdict.ensures ∙ c.in_ok-choice_verdict.was)).ends

pub number_in-requires : goal.number_in-requires
number_in-requires c = omega (arith, ends (goal.at.number_in-requires c).In_ok-choice_verdict)

pub number_in-requires-2 : goal.number_in-requires-2
number_in-requires-2 c = omega (arith, ends (goal.at.number_in-requires-2 c).In_ok-choice_verdict)

pub number_in-requires-3 : goal.number_in-requires-3
number_in-requires-3 c = omega (arith, ends (goal.at.number_in-requires-3 c).In_ok-choice_verdict)
