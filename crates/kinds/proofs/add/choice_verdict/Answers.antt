-- The train, the choice and the last field are judged in the line's order, then the end. A study has a train, and each train a choice.
use mathlib.Core.Path.{◌≡◌, refl, sym, ◌∙◌}
use Prim.Native.Nat.{◌≤◌, ◌<◌}
use native.Mathlib.Omega.{arith}
use Rattle.refusals.specs.Verdicts.{Fine}
use Rattle.tables.specs.Block.{trains}
use Rattle.tables.proofs.Study.{trains_range, size_range}
use Rattle.frames.specs.Digits.{bytes}
use Rattle.lines.specs.Layout.{end_of, below, add_train_field, add_train}
use Rattle.lines.specs.Verdicts.{field_verdict}
use Rattle.lines.proofs.Judged.{field-within}
use Rattle.kinds.proofs.add.choice_verdict.Goals.{In_ok-index_verdict}
use Rattle.kinds.proofs.add.choice_verdict.Goals as goal

-- the train is there
there : (c : In_ok-index_verdict)
    → (end_of add_train_field ≤ bytes c.args.frame.line.now) × (add_train c.args.frame.line.now < trains c.args.study.numbers.now)
there c =
    let l = c.args.frame.line.now in
    let train : field_verdict l (below add_train_field (trains c.args.study.numbers.now)) ≡ Fine = rw (← c.trains.ensures) (sym c.index_verdict.ensures ∙ c.in_ok-index_verdict.was) in
    let w = field-within l _ refl train in
    omega (arith, w, trains_range c.args.study.held)

pub number_in-requires : goal.number_in-requires
number_in-requires c = omega (arith, there (goal.at.number_in-requires c).In_ok-index_verdict)

pub size-size-requires : goal.size-size-requires
size-size-requires c = omega (arith, there (goal.at.size-size-requires c).In_ok-index_verdict, trains_range c.args.study.held)

pub index_verdict-requires-2 : goal.index_verdict-requires-2
index_verdict-requires-2 c =
    let t = there (goal.at.index_verdict-requires-2 c).In_ok-index_verdict in
    (omega arith, omega arith, omega (arith, size_range c.args.study.held c.number_in.result (omega (arith, t))))
