-- The counts of the block are those of the line.
use native.Mathlib.Omega.{arith}
use Rattle.tables.proofs.Study.{trains_range, pairs_range}
use Rattle.tables.proofs.Counting.{choice_count_most, entry_count_most}
use Rattle.saving.proofs.Together.{save_length}
use Rattle.saving.proofs.save.saved_length.Goals as goal

pub line_length-requires : goal.line_length-requires
line_length-requires c = let s = c.args.study.held in omega (arith, choice_count_most s, entry_count_most s, trains_range s, pairs_range s)

pub returns : goal.returns
returns c = omega (arith, save_length c.args.study.held)
