-- The kind is raised in front of the whole buffer, then the sum byte is written behind the reply.
use native.Mathlib.Omega.{arith}
use Rattle.radio.proofs.Writing.{wrote_radio}
use Rattle.radio.proofs.form.write_radio.Goals as goal

pub returns : goal.returns
returns c = wrote_radio c.args.reply.now c.args.n (omega arith) (omega arith) c.raise.ensures c.put_sum.ensures
