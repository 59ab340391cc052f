use Rattle.clauses.specs.Given.{clauses_given}
use Rattle.clauses.specs.Charges.{Charged, Marked}
use Rattle.clauses.proofs.charges.charge_in.Given as goal

abbrev pub invariant-loop-clause : goal.invariant-loop-clause
invariant-loop-clause l = Charged (clauses_given l.clauses.items.now) l.clause-index l.cells × Marked (clauses_given l.clauses.items.now) l.clause-index l.marks
