-- Each turn stores one row, and the next row's costs begin where it ends.
use mathlib.Core.Path.{◌≡◌, refl, sym, ap}
use mathlib.Core.List.{List}
use Prim.Native.Nat.{ℕ, ◌+◌, ◌*◌, ◌<◌, ◌≤◌}
use native.Mathlib.Omega.{arith}
use lib.ListN.{length, drop, length-drop, get_or}
use lib.Seq.{length-take-le}
use Rattle.std.specs.Prelude.{map}
use Rattle.std.proofs.lemmas.List.{length-map}
use Rattle.theory.specs.Lists.{nth}
use Rattle.tables.proofs.Counting.{entries_part}
use Rattle.theory.proofs.Sum.{row_part}
use Rattle.theory.proofs.Fold.{iter-zero, iter_turn}
use Rattle.tables.specs.declared.block.Pair.{Pair}
use Rattle.tables.specs.Block.{max_pairs, max_choices, loaded_entry_place, held_entry_place}
use Rattle.tables.specs.Counts.{rows_of, columns_of, pair_entries, entries_before}
use Rattle.tables.specs.Numbers.{InRange, numbers_shape}
use Rattle.tables.specs.Plans.{Shape}
use native.Mathlib.Nat.{mul-suc}
use Rattle.operations.specs.declared.lent_study.LentStudy.{LentStudy}
use Rattle.operations.specs.Given.{numbers_lent}
use Rattle.operations.proofs.LoadTurns.{row_turn, run_at, part_is, costs_part, in_scale, pair_lanes, entries_few, first_nth, second_nth}
use Rattle.operations.proofs.load.load_pair.Goals.{In-loop-a}
use Rattle.operations.proofs.load.load_pair.Goals as goal

-- the trains of the pair, as the code reads them
first_is : (l : List Pair) (k : ℕ) → (get_or l k (record { first = 0; second = 0 })).first ≡ nth (map (λ p. p.first) l) k
first_is l k = sym (first_nth l k)

second_is : (l : List Pair) (k : ℕ) → (get_or l k (record { first = 0; second = 0 })).second ≡ nth (map (λ p. p.second) l) k
second_is l k = sym (second_nth l k)

-- the pair and its trains are there, and so are its costs
module _ (n : LentStudy) (r : InRange (numbers_lent n)) (k : ℕ) (h : k < length n.pairs.now) where
  here : k < length (numbers_lent n).firsts
  here = omega (arith, length-map n.pairs.now (λ (p : Pair). p.first))

  trains : (nth (numbers_lent n).firsts k < length n.sizes.now) × (nth (numbers_lent n).seconds k < length n.sizes.now)
  trains = omega (arith, r.below k here)

  costs : entries_before (numbers_shape (numbers_lent n)) k + pair_entries (numbers_shape (numbers_lent n)) k ≤ length n.entries.now
  costs = omega (arith, r.entries, entries_part (numbers_shape (numbers_lent n)) k (length (numbers_lent n).firsts) here)

pub offset_bounds-given-pair : goal.offset_bounds-given-pair
offset_bounds-given-pair c =
    let g = c.args.given.now in
    omega (arith, first_is g.pairs.now c.args.k, trains g g.in_range c.args.k c.requires.0, g.in_range.trains)

pub bounds-given-pair : goal.bounds-given-pair
bounds-given-pair c =
    let g = c.args.given.now in
    omega (arith, first_is g.pairs.now c.args.k, trains g g.in_range c.args.k c.requires.0)

pub offset_bounds-given-pair-2 : goal.offset_bounds-given-pair-2
offset_bounds-given-pair-2 c =
    let g = c.args.given.now in
    omega (arith, second_is g.pairs.now c.args.k, trains g g.in_range c.args.k c.requires.0, g.in_range.trains)

pub bounds-given-pair-2 : goal.bounds-given-pair-2
bounds-given-pair-2 c =
    let g = c.args.given.now in
    omega (arith, second_is g.pairs.now c.args.k, trains g g.in_range c.args.k c.requires.0)

pub loop-a-init : goal.loop-a-init
loop-a-init c = (omega arith, sym (iter-zero _ _))

module _ (c : In-loop-a) where
  abbrev given : LentStudy
  given = c.args.given.now

  abbrev shape : Shape
  shape = numbers_shape (numbers_lent given)

  rows_are : get_or given.sizes.now (get_or given.pairs.now c.args.k (record { first = 0; second = 0 })).first 0 ≡ rows_of shape c.args.k
  rows_are = ap (nth given.sizes.now) (first_is given.pairs.now c.args.k)

  columns_are : get_or given.sizes.now (get_or given.pairs.now c.args.k (record { first = 0; second = 0 })).second 0 ≡ columns_of shape c.args.k
  columns_are = ap (nth given.sizes.now) (second_is given.pairs.now c.args.k)

  start_is : c.loop-a.start ≡ c.args.from + columns_of shape c.args.k * c.loop-a.a
  start_is = rw columns_are at c.loop-a.invariant.0

  -- the row is there, and so are its costs
  known : (c.args.k < max_pairs) × (c.loop-a.a < max_choices) × (columns_of shape c.args.k ≤ max_choices)
      × (c.loop-a.start + columns_of shape c.args.k ≤ length given.entries.now)
  known =
      let r = given.in_range in
      let k = c.args.k in
      let t = here given r k c.requires.0 in
      let w = pair_lanes r k t in
      let h : c.loop-a.a < rows_of shape k = omega (arith, rows_are) in (
        omega (arith, r.pairs),
        omega arith,
        w.1,
        omega (arith, start_is, c.requires, costs given r k c.requires.0, row_part (rows_of shape k) (columns_of shape k) c.loop-a.a h),
      )

pub overflow_add-end : goal.overflow_add-end
overflow_add-end c = rw (columns_are c) (omega (arith, known c, entries_few c.args.given.now.in_range))

pub offset_bounds-given-start : goal.offset_bounds-given-start
offset_bounds-given-start c = omega (arith, known (goal.at.offset_bounds-given-start c).In-loop-a, entries_few c.args.given.now.in_range)

pub slice_bounds-load_run-end : goal.slice_bounds-load_run-end
slice_bounds-load_run-end c =
    let i = (goal.at.slice_bounds-load_run-end c).In-loop-a in
    omega (arith, columns_are i, known i)

pub load_run-requires : goal.load_run-requires
load_run-requires c =
    let i = (goal.at.load_run-requires c).In-loop-a in
    let r = c.args.given.now.in_range in
    let l = c.args.given.now.entries.now in
    let start = c.loop-a.start in
    let n = columns_of (shape i) c.args.k in
    let w = known i in
    let f = length-take-le n (drop start l) (omega (arith, length-drop start l)) in
    rw (part_is start n {l = l} (ap (λ (x : ℕ). start + x) (columns_are i)) refl)
    (in_scale r, costs_part (record { right = r.entry_costs }) n start, omega arith, omega arith)

pub loop-a-preserved : goal.loop-a-preserved
loop-a-preserved c =
    let i = (goal.at.loop-a-preserved c).In-loop-a in
    let l = numbers_lent c.args.given.now in
    let k = c.args.k in
    let a = c.loop-a.a in
    let n = columns_of (shape i) k in
    rw (columns_are i) (
      omega (arith, start_is i, mul-suc n a),
      iter_turn (row_turn l.scale l.entries c.args.from n k) c.args.b.now (rw (columns_are i) at c.loop-a.invariant.1)
          (rw (← start_is i)
          (run_at l.scale l.entries c.loop-a.start (loaded_entry_place k a 0) (held_entry_place k a 0) n c.loop-a.b (known i).3 (part_is c.loop-a.start n (ap (λ (x : ℕ). c.loop-a.start + x) (columns_are i)) refl)
          c.entry_place-loaded.ensures c.entry_place-held.ensures c.load_run.ensures)),
    )
