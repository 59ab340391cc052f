use Rattle.std.proofs.Common.{◌≡◌}
use Rattle.theory.specs.Fold.{iter}
use Rattle.rewriting.specs.Leasts.{lane_tightened}
use Rattle.rewriting.proofs.leasts.tighten_lanes.Given as goal

abbrev pub invariant-loop-x : goal.invariant-loop-x
invariant-loop-x l = l.b ≡ iter l.x (lane_tightened l.side l.k) l.initial.b
