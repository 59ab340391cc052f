-- A front of the sizes of all trains.
use Rattle.std.proofs.Common.{◌∙◌}
use Rattle.std.proofs.lemmas.List.{take-replicate}
use Rattle.tables.specs.Block.{max_trains}
use Rattle.clauses.specs.Clauses.{clause_choices}
use Rattle.clauses.proofs.loads.list_sizes.Goals as goal

pub returns : goal.returns
returns c = c.truncate.ensures.items ∙ rw c.from-sizes.ensures.0 (take-replicate c.args.n max_trains clause_choices c.requires)
