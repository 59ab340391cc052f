-- Clauses one after the other, and the lists of their parts: what the code reads of clause k is what the rule says of it.
use mathlib.Core.Path.{◌≡◌}
use mathlib.Core.List.{List}
use Prim.Native.Nat.{ℕ}
use lib.IntN.{pos}
use lib.ListN.{length, get_or, length-map, get_or-map}
use Rattle.tables.specs.Block.{at}
use Rattle.theory.specs.Lists.{nth}
use Rattle.clauses.specs.declared.clause.Clause.{Clause}
use Rattle.clauses.specs.Clauses.{count, cell_of, cell_from, other_of, clause_cell}
use Rattle.clauses.specs.Given.{clauses_given}

-- what stands past the last clause
abbrev pub no_clause : Clause
no_clause = record { first = pos 0; second = pos 0; weight = 0 }

module _ (l : List Clause) where
  pub given_count : count (clauses_given l) ≡ length l
  given_count = length-map l (λ (c : Clause). c.weight)

  module _ (k : ℕ) where
    pub given_first : at (clauses_given l).firsts k ≡ (get_or l k no_clause).first
    given_first = get_or-map (λ (c : Clause). c.first) l k no_clause

    pub given_second : at (clauses_given l).seconds k ≡ (get_or l k no_clause).second
    given_second = get_or-map (λ (c : Clause). c.second) l k no_clause

    pub given_weight : nth (clauses_given l).weights k ≡ (get_or l k no_clause).weight
    given_weight = get_or-map (λ (c : Clause). c.weight) l k no_clause

    pub given_cell : clause_cell (clauses_given l) k ≡ cell_of (get_or l k no_clause).first (other_of (get_or l k no_clause).first (get_or l k no_clause).second)
    unfolding cell_from
    given_cell = rw (given_first, given_second)
