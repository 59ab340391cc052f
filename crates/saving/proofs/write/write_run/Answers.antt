-- The invariant: the first k numbers are written behind the front. A turn writes one more field.
use mathlib.Core.Path.{refl}
use native.Mathlib.Omega.{arith}
use lib.ListN.{length}
use Rattle.theory.specs.Lists.{nth}
use Rattle.replies.proofs.Writing.{wrote_run_none, wrote_run_room, wrote_run_more}
use Rattle.saving.proofs.write.write_run.Goals as goal

pub loop-v-init : goal.loop-v-init
loop-v-init c = wrote_run_none (omega arith) c.args.width (nth c.args.list.now)

pub put_field-end-requires : goal.put_field-end-requires
put_field-end-requires c =
    omega (arith, wrote_run_room (omega arith) c.args.width (nth c.args.list.now) c.loop-v.v-index c.loop-v.invariant (length c.args.list.now) c.requires c.loop-v-test.true)

pub loop-v-preserved : goal.loop-v-preserved
loop-v-preserved c = wrote_run_more (omega arith) c.args.width (nth c.args.list.now) c.loop-v.v-index c.loop-v.invariant refl c.put_field-end.ensures
