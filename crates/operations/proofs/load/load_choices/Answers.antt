-- Each turn stores the costs of one train, and the next train's costs begin where they end.
use mathlib.Core.Path.{refl, sym}
use Prim.Native.Nat.{◌+◌, ◌<◌, ◌≤◌}
use native.Mathlib.Omega.{arith}
use lib.ListN.{length, drop, length-drop}
use lib.Seq.{length-take-le}
use Rattle.theory.specs.Lists.{nth}
use Rattle.theory.proofs.Sum.{sum_none, sum_more, sum_part}
use Rattle.theory.proofs.Fold.{iter-zero, iter_turn}
use Rattle.tables.specs.Block.{max_trains, max_choices, loaded_choice_place, held_choice_place}
use Rattle.tables.specs.Numbers.{numbers_shape}
use Rattle.operations.specs.Given.{numbers_lent}
use Rattle.operations.proofs.LoadTurns.{train_turn, run_at, part_is, costs_part, in_scale, choices_few}
use Rattle.operations.proofs.load.load_choices.Goals.{In-loop-i}
use Rattle.operations.proofs.load.load_choices.Goals as goal

pub loop-i-init : goal.loop-i-init
loop-i-init c = (sym (sum_none _), sym (iter-zero _ _))

-- the train is there, and so are its costs
known : (c : In-loop-i)
    → (c.loop-i.i < max_trains) × (nth c.args.given.now.sizes.now c.loop-i.i ≤ max_choices)
    × (c.loop-i.start + nth c.args.given.now.sizes.now c.loop-i.i ≤ length c.args.given.now.choices.now)
known c =
    let r = c.args.given.now.in_range in
    let i = c.loop-i.i in
    let sizes = c.args.given.now.sizes.now in
    let h : i < length sizes = omega arith in
    (omega (arith, r.trains), (r.sizes i h).1, omega (arith, r.choices, sum_part (length sizes) i (nth sizes) h))

pub overflow_add-end : goal.overflow_add-end
overflow_add-end c = omega (arith, known (goal.at.overflow_add-end c).In-loop-i, choices_few c.args.given.now.in_range)

pub offset_bounds-given-start : goal.offset_bounds-given-start
offset_bounds-given-start c = omega (arith, known (goal.at.offset_bounds-given-start c).In-loop-i, choices_few c.args.given.now.in_range)

pub slice_bounds-load_run-end : goal.slice_bounds-load_run-end
slice_bounds-load_run-end c = omega (arith, known (goal.at.slice_bounds-load_run-end c).In-loop-i)

pub load_run-requires : goal.load_run-requires
load_run-requires c =
    let r = c.args.given.now.in_range in
    let l = c.args.given.now.choices.now in
    let start = c.loop-i.start in
    let n = nth c.args.given.now.sizes.now c.loop-i.i in
    let w = known (goal.at.load_run-requires c).In-loop-i in
    let f = length-take-le n (drop start l) (omega (arith, length-drop start l)) in
    rw (part_is start n {l = l} refl refl)
    (in_scale r, costs_part (record { right = r.choice_costs }) n start, omega arith, omega arith)

pub loop-i-preserved : goal.loop-i-preserved
loop-i-preserved c =
    let l = numbers_lent c.args.given.now in
    let i = c.loop-i.i in
    let n = nth l.sizes i in
    let w = known (goal.at.loop-i-preserved c).In-loop-i in (
      omega (arith, sum_more i (nth l.sizes)),
      iter_turn (train_turn l.scale (numbers_shape l) l.choices) c.args.b.now c.loop-i.invariant.1
          (rw (← c.loop-i.invariant.0)
          (run_at l.scale l.choices c.loop-i.start (loaded_choice_place i 0) (held_choice_place i 0) n c.loop-i.b w.2 (part_is c.loop-i.start n refl refl)
          c.choice_place-loaded.ensures c.choice_place-held.ensures c.load_run.ensures)),
    )
