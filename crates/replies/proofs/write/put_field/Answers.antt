-- The invariant: w bytes are still to be written, of the number `rest`; the bytes behind them stand, and the characters before them are as they were.
use borrow.Author.Rules.{rules}
use mathlib.Core.Path.{refl}
use native.Mathlib.Omega.{arith}
use Rattle.replies.proofs.Writing.{still_next, still_none}
use Rattle.replies.proofs.write.put_field.Goals as goal

pub loop-w-preserved : goal.loop-w-preserved
loop-w-preserved c =
    still_next c.loop-w.w c.loop-w.invariant c.requires c.loop-w-test.true (search rules) c.put_byte.ensures

pub returns : goal.returns
returns c = (refl, still_none c.loop-w.w c.loop-w.invariant (omega arith))
