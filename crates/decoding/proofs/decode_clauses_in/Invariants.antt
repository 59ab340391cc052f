use mathlib.Core.Path.{◌≡◌}
use Rattle.theory.specs.Lists.{list_of}
use Rattle.clauses.specs.Clauses.{clauses}
use Rattle.clauses.specs.Given.{clauses_given}
use Rattle.lines.specs.Layout.{clause_first, clause_second, clause_weight}
use Rattle.decoding.proofs.decode_clauses_in.Given as goal

abbrev pub invariant-loop-k : goal.invariant-loop-k
invariant-loop-k l =
    let line = l.frame.line.now in
    clauses_given l.clauses.items ≡ clauses (list_of l.k (clause_first line)) (list_of l.k (clause_second line)) (list_of l.k (clause_weight line))
