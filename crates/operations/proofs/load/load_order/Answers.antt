-- Each turn stores one train, as the definition does.
use mathlib.Core.Path.{sym}
use Rattle.theory.proofs.Fold.{iter-zero, iter_turn}
use Rattle.operations.proofs.LoadTurns.{order_turn}
use Rattle.operations.proofs.load.load_order.Goals as goal

pub loop-d-init : goal.loop-d-init
loop-d-init c = sym (iter-zero _ _)

pub loop-d-preserved : goal.loop-d-preserved
loop-d-preserved c = iter_turn order_turn c.args.b.now c.loop-d.invariant c.put_order.ensures
