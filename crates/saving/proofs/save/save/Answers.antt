-- The numbers that are written are those of the block: in range, and their line fits.
use mathlib.Core.Path.{ap}
use Rattle.lines.specs.Text.{load_digits}
use Rattle.tables.proofs.Study.{scale_range}
use Rattle.replies.proofs.Writing.{wrote_as}
use Rattle.saving.proofs.Together.{read_writes}
use Rattle.saving.proofs.save.save.Goals as goal

pub scale-requires : goal.scale-requires
scale-requires c = scale_range c.args.study.held

pub known-requires : goal.known-requires
known-requires c = (read_writes c.args.study.held c.list.ensures _ c.requires).0

pub write_load-requires : goal.write_load-requires
write_load-requires c = rw c.known.ensures ((read_writes c.args.study.held c.list.ensures _ c.requires).1)

pub returns : goal.returns
returns c = wrote_as c.write_load.ensures (ap load_digits (rw c.known.ensures c.list.ensures))
