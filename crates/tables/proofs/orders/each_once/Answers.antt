-- Each place's train is counted; a number that is no train ends it.
use mathlib.Core.Path.{◌≡◌, sym, ◌∙◌}
use native.Mathlib.Omega.{arith}
use lib.Dec.{eqb}
use lib.ListN.{length}
use borrow.Author.Tests.{tests}
use Rattle.std.proofs.Common.{rules}
use Rattle.theory.proofs.Chains.{front_all}
use Rattle.theory.specs.Lists.{nth}
use Rattle.tables.proofs.Order.{counted_none, counted_few, counted_more, counted_beyond, counted_all}
use Rattle.tables.proofs.orders.each_once.Goals as goal

pub loop-d-init : goal.loop-d-init
loop-d-init c = counted_none (length c.args.order.now) (nth c.args.order.now) c.requires

pub returns-then-t-n : goal.returns-then-t-n
returns-then-t-n c = sym (counted_beyond c.loop-d.invariant (omega arith) (omega arith))

pub overflow_add-times : goal.overflow_add-times
overflow_add-times c =
    let i = c.loop-d.invariant in
    record { fits = omega (arith, i.room, counted_few i (nth c.args.order.now c.loop-d.d) (omega (arith, i.room))) }

pub loop-d-preserved : goal.loop-d-preserved
loop-d-preserved c = counted_more c.loop-d.invariant (omega arith)

pub returns : goal.returns
returns c =
    let n = length c.args.order.now in
    let e : c.loop-d.d ≡ n = omega arith in
    let rest = c.iter.ensures.rest in
    front_all (λ k. eqb k 1) c.loop-d.times n 0 _ _ _ c.all.ensures.ran (omega (arith, c.loop-d.invariant.room, c.loop-d.invariant.long)) rest (λ x r q k. search (rules, tests))
    ∙ sym (counted_all (rw e at c.loop-d.invariant))
