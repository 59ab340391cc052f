use lib.ListN.{length}
use Rattle.stream.specs.Parts.{over_part}
use Rattle.stream.proofs.Over.{InPart}
use Rattle.junction.proofs.answer_part.Given as goal

abbrev pub invariant-loop-rest : goal.invariant-loop-rest
invariant-loop-rest l = InPart (over_part l.fn.line.items l.fn.block l.part) l.rest l.line.items l.block

abbrev pub decreases-loop-rest : goal.decreases-loop-rest
decreases-loop-rest l = length l.rest
