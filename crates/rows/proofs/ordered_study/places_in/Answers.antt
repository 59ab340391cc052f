-- The train at the next place is one that is at none before.
use native.Mathlib.Omega.{arith}
use Rattle.std.proofs.Common.{refl}
use lib.ListN.{length-set}
use Rattle.theory.proofs.Order.{order_below}
use Rattle.rows.proofs.Placing.{placed_more, placed_all}
use Rattle.rows.proofs.ordered_study.places_in.Goals as goal

pub bounds-places-order : goal.bounds-places-order
bounds-places-order c = omega (arith, order_below c.requires.1 c.loop-d.d c.loop-d-test.true, c.requires.0)

pub offset_bounds-places-order : goal.offset_bounds-places-order
offset_bounds-places-order c = omega (arith, order_below c.requires.1 c.loop-d.d c.loop-d-test.true, c.requires.0)

pub loop-d-preserved : goal.loop-d-preserved
loop-d-preserved c =
    let l = c.loop-d in
    let is = c.requires.1 in
    let h = c.loop-d-test.true in
    (simp length-set l.invariant.0, placed_more is (λ d. d) l.places l.d l.d h (omega (arith, order_below is l.d h, c.requires.0, l.invariant.0)) refl l.invariant.1)

pub returns : goal.returns
returns c =
    let l = c.loop-d in
    placed_all c.requires.1 (λ d. d) l.places (λ e q. l.invariant.1 e (omega arith))
