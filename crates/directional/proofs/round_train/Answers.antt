-- Each turn of a pair keeps the heights, so that no number goes far, and the shape, so that the lift is of a train that is there.
use Rattle.std.proofs.Common.{arith}
use Rattle.directional.proofs.Progress.{turn_asked, lift_asked}
use Rattle.directional.proofs.round_train.Goals as goal

pub turn_pair-requires : goal.turn_pair-requires
turn_pair-requires c = rw c.loop-k.invariant (turn_asked c.requires.0 c.loop-k.k (omega arith))

pub tighten_train-requires : goal.tighten_train-requires
tighten_train-requires c = rw c.loop-k.invariant (lift_asked c.requires.0 c.loop-k.k (omega arith) c.requires.1)
