-- The columns, then the rows: the takings keep the shape, no open number falls below 0, and none goes far from 0.
use Rattle.directional.proofs.Pair.{rows_asked}
use Rattle.directional.proofs.round_pair.Goals as goal

pub tighten_lanes-requires : goal.tighten_lanes-requires
tighten_lanes-requires c = rw c.take_columns.ensures (rows_asked c.requires.0 c.requires.1 c.args.k c.requires.3 c.requires.2)
