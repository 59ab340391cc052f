-- The calls are the definition, one after the other.
use mathlib.Core.Path.{refl}
use Rattle.tables.specs.Block.{block_length}
use Rattle.operations.proofs.LoadTurns.{head_by}
use Rattle.operations.proofs.load.load_head.Goals as goal

pub returns : goal.returns
returns c = head_by c.args.n c.args.scale c.args.m block_length refl c.put_trains.ensures c.put_scale.ensures c.put_pairs.ensures
