-- The clauses of a clause line, as lists: what a load of kind 09 stores, and what the ledger keeps.
use Rattle.std.specs.Prelude.{List, ℕ}
use Rattle.theory.specs.Lists.{list_of}
use Rattle.tables.specs.Numbers.{Numbers}
use Rattle.clauses.specs.Clauses.{Clauses, clauses, clause_numbers}
use Rattle.lines.specs.Layout.{load_trains, load_scale, clause_count, clause_first, clause_second, clause_weight}

unfoldable pub clauses_of : List ℕ → Clauses
clauses_of l = clauses (list_of (clause_count l) (clause_first l)) (list_of (clause_count l) (clause_second l)) (list_of (clause_count l) (clause_weight l))

-- the numbers of the load that the line stands for
abbrev pub clause_numbers_of : List ℕ → Numbers
clause_numbers_of l = clause_numbers (load_trains l) (load_scale l) (clauses_of l)
