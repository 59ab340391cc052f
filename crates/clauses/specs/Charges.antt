-- What the functions of charges.rt leave in their tables. Nothing here is part of the rule.
use Rattle.std.specs.Prelude.{◌≡◌, Bool, false, not, ◌&&◌, List, ℕ, ◌/◌, ◌%◌, ◌<◌, ltb, length, get_or}
use Rattle.theory.specs.Lists.{nth}
use Rattle.tables.specs.Block.{max_trains}
use Rattle.clauses.specs.Clauses.{Clauses, max_codes, max_cells, charged_to, unnamed_to}

-- the cells hold what the first n clauses charge
pub record Charged (cs : Clauses) (n : ℕ) (cells : List ℕ) : Type 0 where
  pub whole : length cells ≡ max_cells
  pub costs : (o : ℕ) → o < max_cells → nth cells o ≡ charged_to cs n o

-- just the codes of the first n clauses are marked
pub record Marked (cs : Clauses) (n : ℕ) (marks : List Bool) : Type 0 where
  pub whole : length marks ≡ max_codes
  pub holds : (o : ℕ) → o < max_codes → get_or marks o false ≡ not (unnamed_to cs n o)

-- a marked code of two trains
abbrev pub marked_pair : List Bool → ℕ → Bool
marked_pair marks o = ltb (o / max_trains) (o % max_trains) && get_or marks o false
