use Rattle.replies.proofs.Writing.{Still}
use Rattle.replies.proofs.write.put_field.Given as goal

abbrev pub invariant-loop-w : goal.invariant-loop-w
invariant-loop-w l = Still l.initial.reply l.at l.width l.v l.reply l.rest l.w
