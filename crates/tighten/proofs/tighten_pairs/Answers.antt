-- Each turn tightens one pair, by a chain of at most 16 moves.
use Rattle.std.proofs.Common.{arith}
use Rattle.tighten.proofs.Folds.{pair_asked}
use Rattle.tighten.proofs.tighten_pairs.Goals as goal

pub tighten_pair-requires : goal.tighten_pair-requires
tighten_pair-requires c =
    rw c.loop-k.invariant (pair_asked c.requires.0 c.loop-k.k c.requires.1 c.requires.2 (omega arith))
