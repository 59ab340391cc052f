-- The sum is that of the front, and the byte that it lacks is written behind it.
use native.Mathlib.Omega.{arith}
use Rattle.replies.proofs.Writing.{wrote_front, wrote_field}
use Rattle.radio.specs.Forms.{sum_width}
use Rattle.radio.proofs.form.put_sum.Goals as goal

pub returns : goal.returns
returns c = wrote_field (wrote_front c.args.reply.now c.args.n (omega arith)) sum_width (rw (c.from-sum.ensures, c.byte_sum.ensures)) c.put_field.ensures
