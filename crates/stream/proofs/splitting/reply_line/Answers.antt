-- The reply of the call is shorter than the buffer, and the line feed goes right behind it.
use borrow.Author.Rules.{rules}
use native.Mathlib.Omega.{arith}
use Rattle.stream.proofs.Steps.{line_short, line_answered}
use Rattle.stream.proofs.splitting.reply_line.Goals as goal

pub bounds-reply-n : goal.bounds-reply-n
bounds-reply-n c = omega (arith, line_short _ _ _ c.respond-n.ensures)

pub overflow_add-result : goal.overflow_add-result
overflow_add-result c = record { fits = omega (arith, line_short _ _ _ c.respond-n.ensures) }

pub returns : goal.returns
returns c = line_answered _ _ _ c.respond-n.ensures (search rules)
