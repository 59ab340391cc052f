-- The invariant: the first k pairs are written behind the front, and the next pair's costs begin at `start`. Each turn writes one pair.
use mathlib.Core.Path.{◌≡◌, sym}
use mathlib.Core.List.{[], append-nil}
use Prim.Native.Nat.{ℕ, ◌+◌, ◌*◌, ◌<◌, ◌≤◌}
use native.Mathlib.Omega.{arith}
use lib.ListN.{length, take, get_or, length-map}
use Rattle.theory.specs.Lists.{nth}
use Rattle.theory.proofs.Sum.{sum_none, sum_more}
use Rattle.tables.specs.declared.block.Pair.{Pair}
use Rattle.tables.specs.Numbers.{Numbers}
use Rattle.tables.specs.Counts.{pair_entries}
use Rattle.operations.specs.Given.{numbers_given}
use Rattle.operations.proofs.LoadTurns.{first_nth, second_nth}
use Rattle.lines.specs.Layout.{cost_width, pair_width}
use Rattle.lines.specs.Text.{text_shape}
use Rattle.lines.proofs.Pairs.{pairs_none, pairs_turn}
use Rattle.replies.proofs.Writing.{wrote_as, wrote_front, wrote_through}
use Rattle.saving.proofs.Writing.{pairs_end, pair_there, part_length, pair_part}
use Rattle.saving.proofs.write.write_pairs.Goals.{In-loop-pair}
use Rattle.saving.proofs.write.write_pairs.Goals as goal

-- the numbers, the pair of this turn, and how many costs it has
abbrev given : In-loop-pair → Numbers
given c = numbers_given c.args.given.numbers.now

abbrev pair : In-loop-pair → Pair
pair c = get_or c.as_slice-pair-items.result.now c.loop-pair.pair-index (record { first = 0; second = 0 })

abbrev count : In-loop-pair → ℕ
count c = nth c.as_slice-sizes.result.now (pair c).first * nth c.as_slice-sizes.result.now (pair c).second

-- what is read is the pair's
trains : (c : In-loop-pair) → ((pair c).first ≡ nth (given c).firsts c.loop-pair.pair-index) × ((pair c).second ≡ nth (given c).seconds c.loop-pair.pair-index)
trains c = rw c.as_slice-pair-items.ensures.value (sym (first_nth c.args.given.numbers.now.pairs.items c.loop-pair.pair-index), sym (second_nth c.args.given.numbers.now.pairs.items c.loop-pair.pair-index))

counted : (c : In-loop-pair) → count c ≡ pair_entries (text_shape (given c)) c.loop-pair.pair-index
counted c = rw (c.as_slice-sizes.ensures.value, (trains c).0, (trains c).1)

-- its trains and its costs are there, and there is room for it
known : (c : In-loop-pair)
    → ((pair c).first < length c.as_slice-sizes.result.now)
    × ((pair c).second < length c.as_slice-sizes.result.now)
    × (c.loop-pair.start + count c ≤ length c.as_slice-entries.result.now)
    × (c.loop-pair.end + 2 * (pair_width + cost_width * count c) ≤ length c.loop-pair.reply)
known c =
    let pairs = c.args.given.numbers.now.pairs.items in
    let few : c.loop-pair.pair-index < length pairs = rw c.as_slice-pair-items.ensures.value at c.loop-pair-test.true in
    let there = pair_there c.args.given.in_range c.loop-pair.pair-index (simp length-map few) in
    let end = pairs_end (given c) c.loop-pair.pair-index c.loop-pair.invariant.1 (omega arith) in (
      rw (c.as_slice-sizes.ensures.value, (trains c).0) there.0,
      rw (c.as_slice-sizes.ensures.value, (trains c).1) there.1,
      rw (c.as_slice-entries.ensures.value, counted c) (omega (arith, there.4)),
      rw (counted c) (omega (arith, there.4, end, few, c.requires)),
    )

pub loop-pair-init : goal.loop-pair-init
loop-pair-init c =
    let s = text_shape (numbers_given c.args.given.numbers.now) in
    (sym (sum_none (pair_entries s)), wrote_as (wrote_front c.args.reply.now c.args.at (omega arith)) (sym (rw (pairs_none s c.args.given.numbers.now.entries.items []) (append-nil (take c.args.at c.args.reply.now)))))

pub offset_bounds-sizes-pair : goal.offset_bounds-sizes-pair
offset_bounds-sizes-pair c = omega (arith, known (goal.at.offset_bounds-sizes-pair c).In-loop-pair)

pub bounds-sizes-pair : goal.bounds-sizes-pair
bounds-sizes-pair c = (known (goal.at.bounds-sizes-pair c).In-loop-pair).0

pub offset_bounds-sizes-pair-in-loop-pair : goal.offset_bounds-sizes-pair-in-loop-pair
offset_bounds-sizes-pair-in-loop-pair c = omega (arith, known (goal.at.offset_bounds-sizes-pair-in-loop-pair c).In-loop-pair)

pub bounds-sizes-pair-in-loop-pair : goal.bounds-sizes-pair-in-loop-pair
bounds-sizes-pair-in-loop-pair c = (known (goal.at.bounds-sizes-pair-in-loop-pair c).In-loop-pair).1

pub overflow_add-start : goal.overflow_add-start
overflow_add-start c = omega (arith, known (goal.at.overflow_add-start c).In-loop-pair)

pub offset_bounds-entries-start : goal.offset_bounds-entries-start
offset_bounds-entries-start c = omega (arith, known (goal.at.offset_bounds-entries-start c).In-loop-pair)

pub slice_bounds-write_pair-end : goal.slice_bounds-write_pair-end
slice_bounds-write_pair-end c = omega (arith, known (goal.at.slice_bounds-write_pair-end c).In-loop-pair)

pub write_pair-end-requires : goal.write_pair-end-requires
write_pair-end-requires c =
    let w = known (goal.at.write_pair-end-requires c).In-loop-pair in
    rw (part_length c.as_slice-entries.result.now c.loop-pair.start (count (goal.at.write_pair-end-requires c).In-loop-pair) w.2) w.3

pub loop-pair-preserved : goal.loop-pair-preserved
loop-pair-preserved c =
    let t = (goal.at.loop-pair-preserved c).In-loop-pair in
    let x = given t in
    let k = c.loop-pair.pair-index in
    let costs = rw c.as_slice-entries.ensures.value at (known t).2 in
    let part = pair_part x k c.loop-pair.start (count t) (trains t).0 (trains t).1 c.loop-pair.invariant.0 (counted t) costs in
    let written = rw (c.as_slice-entries.ensures.value, part) at c.write_pair-end.ensures in
    (omega (arith, counted t, sum_more k (pair_entries (text_shape x))), wrote_as (wrote_through c.loop-pair.invariant.1 _ written) (pairs_turn (text_shape x) x.entries (take c.args.at c.args.reply.now) k))
