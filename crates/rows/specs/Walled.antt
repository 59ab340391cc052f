-- Document 02, change 5: what is forbidden, in a search. It counts as a wall, which no total of permitted entries reaches.
use Rattle.std.specs.Prelude.{cond, List, ℕ, ◌^◌, ℤ}
use Rattle.tables.specs.Block.{held_choice_place, held_entry_place, at, figure, constant}
use Rattle.tables.specs.WellFormed.{is_open}
use Rattle.tables.specs.Plans.{Costs}

-- above every total, and so low that a wall for a choice and one for each pair fit a number of 64 bits
abbrev pub wall : ℕ
wall = 2 ^ 50

-- what place p counts in a search: its number, and the wall where it is forbidden
unfoldable pub walled : List ℤ → ℕ → ℕ
walled b p = cond (is_open (at b p)) (figure b p) wall

-- T of choice a of train i so
abbrev pub walled_choice : List ℤ → ℕ → ℕ → ℕ
walled_choice b i a = walled b (held_choice_place i a)

-- T of the two choices a and c of pair k so
abbrev pub walled_entry : List ℤ → ℕ → ℕ → ℕ → ℕ
walled_entry b k a c = walled b (held_entry_place k a c)

-- T so, with c0
unfoldable pub walled_costs : List ℤ → Costs
walled_costs b = record { constant = constant b; choice = walled_choice b; pair = walled_entry b }
