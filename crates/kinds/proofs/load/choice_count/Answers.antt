-- The sizes so far are summed; a size is at most 8, and there are at most 24.
use mathlib.Core.Path.{sym}
use native.Mathlib.Omega.{arith}
use Rattle.theory.proofs.Sum.{sum_none, sum_more}
use Rattle.lines.specs.Layout.{load_size}
use Rattle.kinds.proofs.load.choice_count.Goals as goal

pub loop-i-init : goal.loop-i-init
loop-i-init c = (sym (sum_none _), omega arith)

pub loop-i-preserved : goal.loop-i-preserved
loop-i-preserved c =
    let line = c.args.load.frame.line.now in
    let small = c.args.load.sized.sizes c.loop-i.i (omega arith) in
    (omega (arith, sum_more c.loop-i.i (load_size line)), omega (arith, small))
