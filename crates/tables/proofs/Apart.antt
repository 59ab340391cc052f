-- Different entries stand at different places: of one table, by their numbers; of different tables, always. For every size.
use mathlib.Core.Path.{◌≡◌}
use Prim.Native.Nat.{ℕ, ◌+◌, ◌*◌, ◌<◌, ◌≤◌}
use native.Mathlib.Omega.{arith}
use Rattle.tables.specs.Block.{max_trains, max_choices, max_pairs, entries_of_pair, constant_place, loaded_choices_from, held_choices_from, loaded_entries_from, held_entries_from, order_from, choice_place, entry_place}

-- two choices at one place of a table are the same choice of the same train
pub choice_place_same : (from i a j c : ℕ) → a < max_choices → c < max_choices → choice_place from i a ≡ choice_place from j c → (i ≡ j) × (a ≡ c)
choice_place_same from i a j c h q e = omega arith

-- two entries at one place of a table are the same entry of the same pair
pub entry_place_same : (from k a c l d f : ℕ) → a < max_choices → c < max_choices → d < max_choices → f < max_choices
    → entry_place from k a c ≡ entry_place from l d f → (k ≡ l) × ((a ≡ d) × (c ≡ f))
entry_place_same from k a c l d f p q r t e = omega arith

-- where a table of choices lies
pub choice_place_in : (from i a : ℕ) → i < max_trains → a < max_choices → (from ≤ choice_place from i a) × (choice_place from i a < from + max_trains * max_choices)
choice_place_in from i a h q = omega arith

-- where a table of pairs lies
pub entry_place_in : (from k a c : ℕ) → k < max_pairs → a < max_choices → c < max_choices
    → (from ≤ entry_place from k a c) × (entry_place from k a c < from + max_pairs * entries_of_pair)
entry_place_in from k a c h p q = omega arith

-- the constant, the four tables and the order follow one another, with no place in common
pub tables_apart : (constant_place < loaded_choices_from)
    × ((loaded_choices_from + max_trains * max_choices ≤ held_choices_from)
    × ((held_choices_from + max_trains * max_choices ≤ loaded_entries_from)
    × ((loaded_entries_from + max_pairs * entries_of_pair ≤ held_entries_from) × (held_entries_from + max_pairs * entries_of_pair ≤ order_from))))
tables_apart = omega arith
