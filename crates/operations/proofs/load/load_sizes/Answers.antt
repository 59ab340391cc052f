-- Each turn stores one size, as the definition does.
use mathlib.Core.Path.{sym}
use Rattle.theory.proofs.Fold.{iter-zero, iter_turn}
use Rattle.operations.proofs.LoadTurns.{size_turn}
use Rattle.operations.proofs.load.load_sizes.Goals as goal

pub loop-i-init : goal.loop-i-init
loop-i-init c = sym (iter-zero _ _)

pub loop-i-preserved : goal.loop-i-preserved
loop-i-preserved c = iter_turn (size_turn c.args.sizes.now) c.args.b.now c.loop-i.invariant c.put_size.ensures
