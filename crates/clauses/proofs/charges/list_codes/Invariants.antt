use mathlib.Core.Path.{◌≡◌}
use Rattle.clauses.specs.Clauses.{codes_below}
use Rattle.clauses.specs.Charges.{marked_pair}
use Rattle.clauses.proofs.charges.list_codes.Given as goal

abbrev pub invariant-loop-o : goal.invariant-loop-o
invariant-loop-o l = l.codes.items ≡ codes_below (marked_pair l.marks) l.o
