-- The bytes before the line feed go behind the kept line. Where the part has no line feed that is all; where it has one, the line is answered, and none of it is kept.
use mathlib.Core.Path.{sym}
use native.Mathlib.Omega.{arith}
use lib.Seq.{length-take-le}
use Rattle.stream.proofs.Lines.{line_length_most}
use Rattle.stream.proofs.Steps.{steps_open, steps_ended}
use Rattle.stream.proofs.splitting.next_line.Goals as goal

pub slice_bounds-keep-end : goal.slice_bounds-keep-end
slice_bounds-keep-end c =
    sym (length-take-le c.line_length-n.result c.args.part.now (omega (arith, line_length_most c.args.part.now)))

pub returns-then-n-part : goal.returns-then-n-part
returns-then-n-part c =
    steps_open c.args.line.now.items c.args.block.now c.args.part.now c.args.reply.now c.line_length-n.ensures c.keep.ensures c.if-n-part.true

pub overflow_add-result : goal.overflow_add-result
overflow_add-result c =
    record { fits = omega (arith, c.line_length-n.ensures, line_length_most c.args.part.now) }

pub returns : goal.returns
returns c =
    let a : _ = rw c.deref.ensures.0 at c.reply_line-written.ensures in
    rw c.clear.ensures
    (steps_ended c.args.line.now.items c.args.block.now c.args.part.now c.args.reply.now c.line_length-n.ensures c.keep.ensures c.if-n-part.false a)
