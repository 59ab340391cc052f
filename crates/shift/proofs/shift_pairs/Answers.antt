-- Each turn makes the moves of one pair, a chain of at most 16, and the start goes on by as many as it took.
use Rattle.std.proofs.Common.{◌<◌, arith}
use Rattle.theory.proofs.Fold.{iter_turn}
use Rattle.theory.proofs.Sum.{sum_more}
use Rattle.tables.specs.Block.{pairs}
use Rattle.tables.specs.Plans.{shape_of}
use Rattle.tables.specs.Counts.{pair_moves, moves_before}
use Rattle.tables.proofs.Counting.{moves_part}
use Rattle.shift.specs.Shift.{pair_shifted}
use Rattle.shift.proofs.Rooms.{pair_asked, pair_kept}
use Rattle.shift.proofs.shift_pairs.Goals as goal

pub shift_pair-start-requires : goal.shift_pair-start-requires
shift_pair-start-requires c =
    let l = c.loop-k in
    let b = c.args.b.now in
    let h : l.k < pairs b = omega arith in record {
      shape_in_range = rw l.invariant.1 (pair_asked c.requires.0 c.args.moves.small l.k h c.requires.1);
      k_in_bounds = omega (arith, moves_part (shape_of b) l.k (pairs b) h, pair_kept c.requires.0 c.args.moves.small l.k h l.invariant.1);
    }

pub loop-k-preserved : goal.loop-k-preserved
loop-k-preserved c =
    let l = c.loop-k in
    let a = c.args in
    let h : l.k < pairs a.b.now = omega arith in
    let r = c.shift_pair-start.ensures in (
      omega (arith, r.0, sum_more l.k (pair_moves (shape_of a.b.now)), pair_kept c.requires.0 c.args.moves.small l.k h l.invariant.1),
      iter_turn (λ k. pair_shifted a.moves.numbers.now (moves_before (shape_of a.b.now) k) k) a.b.now l.invariant.1 (rw l.invariant.0 at r.1),
    )
