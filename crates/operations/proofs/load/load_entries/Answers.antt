-- Each turn stores the costs of one pair, and the next pair's costs begin where they end.
use mathlib.Core.Path.{sym}
use native.Mathlib.Omega.{arith}
use Rattle.theory.proofs.Sum.{sum_none, sum_more}
use Rattle.theory.proofs.Fold.{iter-zero, iter_turn}
use Rattle.tables.specs.Counts.{pair_entries}
use Rattle.tables.specs.Numbers.{numbers_shape}
use Rattle.operations.specs.Given.{numbers_lent}
use Rattle.operations.proofs.LoadTurns.{entries_turn}
use Rattle.operations.proofs.load.load_entries.Goals as goal

pub loop-k-init : goal.loop-k-init
loop-k-init c = (sym (sum_none _), sym (iter-zero _ _))

pub loop-k-preserved : goal.loop-k-preserved
loop-k-preserved c =
    let l = numbers_lent c.args.given.now in
    let k = c.loop-k.k in (
      omega (arith, c.load_pair-start.ensures.value, sum_more k (pair_entries (numbers_shape l))),
      iter_turn (entries_turn l.scale (numbers_shape l) l.entries) c.args.b.now c.loop-k.invariant.1 (rw c.loop-k.invariant.0 at c.load_pair-start.ensures.block_after),
    )
