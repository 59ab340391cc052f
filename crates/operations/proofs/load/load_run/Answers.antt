-- Each turn stores one cost, as the definition does.
use mathlib.Core.Path.{sym}
use native.Mathlib.Nat.{zero-add}
use Rattle.theory.proofs.Fold.{iter-zero, iter_turn}
use Rattle.operations.proofs.LoadTurns.{run_turn}
use Rattle.operations.proofs.load.load_run.Goals as goal

pub loop-a-init : goal.loop-a-init
loop-a-init c = sym (iter-zero _ _)

pub loop-a-preserved : goal.loop-a-preserved
loop-a-preserved c =
    let a = c.args in
    iter_turn (run_turn a.scale a.costs.now 0 a.loaded a.held) a.b.now c.loop-a.invariant (rw (zero-add c.loop-a.a) c.load_cost.ensures)
