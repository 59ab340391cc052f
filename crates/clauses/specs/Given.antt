-- Clauses as the code holds them, one after the other, and the numbers that it makes of them.
use Rattle.std.specs.Prelude.{List, map}
use Rattle.tables.specs.Numbers.{Numbers, numbers}
use Rattle.clauses.specs.declared.loads.ClauseNumbers.{ClauseNumbers}
use Rattle.clauses.specs.declared.clause.Clause.{Clause}
use Rattle.clauses.specs.Clauses.{Clauses, clauses}

abbrev pub clauses_given : List Clause → Clauses
clauses_given l = clauses (map (λ c. c.first) l) (map (λ c. c.second) l) (map (λ c. c.weight) l)

abbrev pub numbers_made : ClauseNumbers → Numbers
numbers_made l = numbers l.scale l.sizes.items l.choices.items (map (λ p. p.first) l.pairs.items) (map (λ p. p.second) l.pairs.items) l.entries.items
