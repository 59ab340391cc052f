use Rattle.stream.specs.Steps.{AfterParts}
use Rattle.junction.proofs.main.Given as goal

abbrev pub invariant-loop : goal.invariant-loop
invariant-loop l = AfterParts l.line.items l.block
