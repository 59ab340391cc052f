-- Each turn is one move of a chain from the block as it was at the beginning, so that its shape stays and no number goes far.
use Rattle.std.proofs.Common.{arith}
use Rattle.rewriting.proofs.Falls.{lane_asked}
use Rattle.rewriting.proofs.leasts.tighten_lanes.Goals as goal

pub tighten_lane-requires : goal.tighten_lane-requires
tighten_lane-requires c =
    let x = c.loop-x in
    rw x.invariant (lane_asked c.requires.0 c.args.side c.args.k x.x c.requires.1 c.requires.2 c.requires.3 (omega arith))
