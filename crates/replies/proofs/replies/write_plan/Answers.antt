-- The invariant: the choices of the first i trains are written behind the front. A turn writes one more field.
use native.Mathlib.Omega.{arith}
use Rattle.replies.specs.Replies.{choice_width, shown_choice}
use Rattle.replies.proofs.Writing.{wrote_run_none, wrote_run_room, wrote_run_more}
use Rattle.replies.proofs.replies.write_plan.Goals as goal

pub loop-i-init : goal.loop-i-init
loop-i-init c = wrote_run_none (omega arith) choice_width (shown_choice c.args.f.now)

pub put_field-at-requires : goal.put_field-at-requires
put_field-at-requires c =
    omega (arith, wrote_run_room (omega arith) choice_width (shown_choice c.args.f.now) c.loop-i.i c.loop-i.invariant c.args.n (omega arith) c.loop-i-test.true)

pub loop-i-preserved : goal.loop-i-preserved
loop-i-preserved c = wrote_run_more (omega arith) choice_width (shown_choice c.args.f.now) c.loop-i.i c.loop-i.invariant c.shown_choice.ensures c.put_field-at.ensures
