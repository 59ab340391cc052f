-- Once the line was judged fine, its three fields are there to be read.
use mathlib.Core.Path.{◌≡◌, sym, subst, ◌∙◌}
use native.Mathlib.Omega.{arith}
use Rattle.frames.specs.Digits.{bytes}
use Rattle.lines.specs.declared.field.Field.{Field}
use Rattle.lines.specs.Layout.{end_of, points_field}
use Rattle.kinds.proofs.Accepted.{choice_fine}
use Rattle.kinds.proofs.add.read_add.Goals.{In_ok-choice_verdict}
use Rattle.kinds.proofs.add.read_add.Goals as goal

ends : (c : In_ok-choice_verdict) → bytes c.args.frame.line.now ≡ end_of points_field
ends c =
    let a = c.args in
    let f = choice_fine a.frame.line.now a.study.numbers.now c.points_field.result (sym c.choice_verdict.ensures ∙ c.in_ok-choice_verdict.was) in
    subst (λ (f : Field). bytes a.frame.line.now ≡ end_of f) c.points_field.ensures f.ends

pub number_in-requires : goal.number_in-requires
number_in-requires c = omega (arith, ends (goal.at.number_in-requires c).In_ok-choice_verdict)

pub number_in-requires-2 : goal.number_in-requires-2
number_in-requires-2 c = omega (arith, ends (goal.at.number_in-requires-2 c).In_ok-choice_verdict)

pub number_in-requires-3 : goal.number_in-requires-3
number_in-requires-3 c = rw c.points_field-2.ensures (omega (arith, ends (goal.at.number_in-requires-3 c).In_ok-choice_verdict), omega arith)
