-- The rows, then the columns: a chain of moves keeps the shape, no open number falls below 0, and none goes far.
use Rattle.tighten.proofs.Folds.{columns_asked}
use Rattle.tighten.proofs.tighten_pair.Goals as goal

pub tighten_lanes-requires-2 : goal.tighten_lanes-requires-2
tighten_lanes-requires-2 c = rw c.tighten_lanes.ensures (columns_asked c.requires.0 c.args.k c.requires.1 c.requires.2 c.requires.3)
