-- Each turn is one move of a chain from the block as it was at the beginning, so that its shape stays and no number goes far.
use Rattle.std.proofs.Common.{arith}
use Rattle.shift.proofs.Rooms.{lift_asked}
use Rattle.shift.proofs.lift_trains.Goals as goal

pub project_unary-requires : goal.project_unary-requires
project_unary-requires c = rw c.loop-i.invariant (lift_asked c.requires.0 c.args.lifts.small c.loop-i.i c.requires.1 (omega arith))
