-- What the test of a study finds is what a held study keeps.
use mathlib.Core.Path.{sym, ◌∙◌}
use Rattle.std.proofs.Common.{rules}
use Rattle.tables.proofs.Study.{holds_study_lem}
use Rattle.tables.proofs.block.Block.new.Goals as goal

pub invariant_of-result : goal.invariant_of-result
invariant_of-result c = record { held = holds_study_lem _ (search rules) (sym c.holds_study.ensures ∙ c.if-holds_study.true) }
