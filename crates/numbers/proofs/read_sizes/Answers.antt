-- The sizes so far are listed, and each turn lists one.
use mathlib.Core.Path.{sym, ap, ◌∙◌}
use mathlib.Core.List.{List}
use Prim.Native.Nat.{ℕ}
use native.Mathlib.Omega.{arith}
use lib.ListN.{length}
use Rattle.theory.proofs.Lists.{list_length}
use Rattle.tables.specs.Block.{size}
use Rattle.tables.proofs.Study.{trains_range}
use Rattle.operations.proofs.Grown.{list_begun, list_turn}
use Rattle.numbers.proofs.read_sizes.Goals as goal

pub loop-i-init : goal.loop-i-init
loop-i-init c = c.clear.ensures ∙ sym (list_begun _)

pub size-requires : goal.size-requires
size-requires c = omega (arith, trains_range c.args.study.held, c.trains-i-end.ensures)

pub push-requires : goal.push-requires
push-requires c =
    let e = ap (λ (l : List ℕ). length l) c.loop-i.invariant ∙ list_length (size c.args.study.numbers.now) c.loop-i.i in
    omega (arith, trains_range c.args.study.held, c.trains-i-end.ensures)

pub loop-i-preserved : goal.loop-i-preserved
loop-i-preserved c = list_turn (size c.args.study.numbers.now) c.loop-i.i c.loop-i.invariant c.size.ensures c.push.ensures.items
