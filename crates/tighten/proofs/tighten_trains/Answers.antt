-- Each turn is one move of a chain from the block as it was at the beginning, so that its shape stays and no number goes far.
use Rattle.std.proofs.Common.{arith}
use Rattle.tighten.proofs.Folds.{train_asked}
use Rattle.tighten.proofs.tighten_trains.Goals as goal

pub tighten_train-requires : goal.tighten_train-requires
tighten_train-requires c =
    rw c.loop-i.invariant (train_asked c.requires.0 c.loop-i.i c.requires.1 c.requires.2 (omega arith))
