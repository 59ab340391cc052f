-- Each turn is one move of a chain from the block as it was at the beginning, so that its shape stays and no number goes far.
use Rattle.std.proofs.Common.{arith}
use Rattle.shift.proofs.Rooms.{lane_asked}
use Rattle.shift.proofs.shift_lanes.Goals as goal

pub project-requires : goal.project-requires
project-requires c =
    let a = c.args in
    let r = c.requires.shape_in_range in
    rw c.loop-x.invariant (lane_asked r.0 a.moves.small a.side a.start a.k c.loop-x.x r.1 r.2 (omega arith))
