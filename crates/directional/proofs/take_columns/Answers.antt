-- Each turn takes one column, so that the shape stays, no open number falls below 0, and none goes far from 0.
use Rattle.std.proofs.Common.{arith}
use Rattle.directional.proofs.Pair.{column_asked}
use Rattle.directional.proofs.take_columns.Goals as goal

pub take_column-requires : goal.take_column-requires
take_column-requires c = rw c.loop-x.invariant (column_asked c.requires.0 c.requires.1 c.args.k c.requires.3 c.loop-x.x c.requires.2 (omega arith))
