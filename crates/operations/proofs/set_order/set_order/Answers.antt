-- Each turn stores one train, as the definition does.
use mathlib.Core.Path.{sym}
use native.Mathlib.Omega.{arith}
use lib.IntN.{pos}
use lib.ListN.{set}
use Rattle.theory.specs.Lists.{nth}
use Rattle.theory.proofs.Fold.{iter-zero, iter_turn}
use Rattle.theory.proofs.Order.{order_below}
use Rattle.tables.specs.Block.{order_place}
use Rattle.operations.proofs.set_order.set_order.Goals as goal

pub loop-d-init : goal.loop-d-init
loop-d-init c = sym (iter-zero _ _)

pub put_order-requires : goal.put_order-requires
put_order-requires c =
    let l = c.args.order.now in
    omega (arith, c.requires.0, order_below {order = nth l} (record { once = c.requires.1 }) c.loop-d.d (omega arith))

pub loop-d-preserved : goal.loop-d-preserved
loop-d-preserved c = iter_turn (λ d x. set x (order_place d) (pos (nth c.args.order.now d))) c.args.b.now c.loop-d.invariant c.put_order.ensures
