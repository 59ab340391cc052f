use Rattle.std.proofs.Common.{◌≡◌}
use Rattle.theory.specs.Fold.{iter}
use Rattle.tables.specs.Plans.{shape_of}
use Rattle.tables.specs.Counts.{moves_before}
use Rattle.shift.specs.Shift.{pair_shifted}
use Rattle.shift.proofs.shift_pairs.Given as goal

abbrev pub invariant-loop-k : goal.invariant-loop-k
invariant-loop-k l =
    (l.start ≡ moves_before (shape_of l.initial.b) l.k) × (l.b ≡ iter l.k (λ k. pair_shifted l.moves.numbers.now (moves_before (shape_of l.initial.b) k) k) l.initial.b)
