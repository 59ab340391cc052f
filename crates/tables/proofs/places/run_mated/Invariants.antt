use Rattle.tables.specs.Rows.{run_mated}
use Rattle.tables.proofs.Mates.{Passing}
use Rattle.tables.proofs.places.run_mated.Given as goal

abbrev pub invariant-loop-x : goal.invariant-loop-x
invariant-loop-x l = Passing l.mated l.x-iterator.a.rest.now l.x-iterator.b.rest.now (run_mated l.b l.from l.to l.count)
