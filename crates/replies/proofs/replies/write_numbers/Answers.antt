-- The invariant: the first k numbers are written behind the front. A turn writes one more field.
use mathlib.Core.Path.{refl}
use native.Mathlib.Omega.{arith}
use lib.ListN.{length}
use Rattle.theory.specs.Lists.{nth}
use Rattle.lines.specs.Layout.{count_width}
use Rattle.replies.proofs.Writing.{wrote_run_none, wrote_run_room, wrote_run_more}
use Rattle.replies.proofs.replies.write_numbers.Goals as goal

pub loop-k-init : goal.loop-k-init
loop-k-init c = wrote_run_none (omega arith) count_width (nth c.args.numbers.now)

pub put_field-at-requires : goal.put_field-at-requires
put_field-at-requires c =
    omega (arith, wrote_run_room (omega arith) count_width (nth c.args.numbers.now) c.loop-k.k c.loop-k.invariant (length c.args.numbers.now) (omega arith) c.loop-k-test.true)

pub loop-k-preserved : goal.loop-k-preserved
loop-k-preserved c = wrote_run_more (omega arith) count_width (nth c.args.numbers.now) c.loop-k.k c.loop-k.invariant refl c.put_field-at.ensures
