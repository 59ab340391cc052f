-- The program stands behind the parts that it has read: each turn is one part more.
use mathlib.Core.Bool.{false}
use mathlib.Core.Path.{◌≡◌, refl, sym, ◌∙◌}
use Rattle.std.proofs.Common.{ControlFlow, Continue, Break}
use Rattle.std.specs.Option.{is_some}
use Rattle.std.specs.ControlFlow.{break_value}
use Rattle.stream.proofs.Over.{after_none, after_part}
use Rattle.junction.proofs.main.Goals as goal

goes_on : (f : ControlFlow Unit Unit) → is_some (break_value f) ≡ false → f ≡ Continue tt
goes_on (Continue u) e = refl
goes_on (Break u) e = cc

pub loop-init : goal.loop-init
loop-init c = rw c.new-line.ensures after_none

pub loop-preserved : goal.loop-preserved
loop-preserved c =
    after_part c.loop.invariant _ (c.answer_read.ensures.leaves _ (goes_on c.answer_read.result (sym c.is_break.ensures ∙ c.if-is_break.false)))
