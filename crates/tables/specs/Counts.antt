-- Document 01, 'Lines': numbers that go through all trains or all pairs of a shape, 'ordered as in a load'. How many there are, and how many come before those of a train or of a pair.
use Rattle.std.specs.Prelude.{ℕ, ◌+◌, ◌*◌}
use Rattle.theory.specs.Sum.{sum}
use Rattle.tables.specs.Plans.{Shape}

-- how many rows pair k has, and how many columns: the choices of its first train, and of its second
abbrev pub rows_of : Shape → ℕ → ℕ
rows_of s k = s.size (s.first k)

abbrev pub columns_of : Shape → ℕ → ℕ
columns_of s k = s.size (s.second k)

-- how many entries pair k has, and how many moves: 'p_i,a by a, then p_j,b by b'
abbrev pub pair_entries : Shape → ℕ → ℕ
pair_entries s k = rows_of s k * columns_of s k

abbrev pub pair_moves : Shape → ℕ → ℕ
pair_moves s k = rows_of s k + columns_of s k

-- one number for each choice, 'by train then choice': those of the first i trains, and of all
abbrev pub choices_before : Shape → ℕ → ℕ
choices_before s i = sum i s.size

abbrev pub choice_count : Shape → ℕ
choice_count s = choices_before s s.trains

-- one number for each pair's two choices: those of the first k pairs, and of all
abbrev pub entries_before : Shape → ℕ → ℕ
entries_before s k = sum k (pair_entries s)

abbrev pub entry_count : Shape → ℕ
entry_count s = entries_before s s.pairs

-- 'for each pair the moves': those of the first k pairs, and of all
abbrev pub moves_before : Shape → ℕ → ℕ
moves_before s k = sum k (pair_moves s)

abbrev pub move_count : Shape → ℕ
move_count s = moves_before s s.pairs

-- 'weights w_i(a), weights z_ij(a,b)'
abbrev pub weight_count : Shape → ℕ
weight_count s = choice_count s + entry_count s

-- where the number of choice a of train i stands among those of the choices
abbrev pub choice_index : Shape → ℕ → ℕ → ℕ
choice_index s i a = choices_before s i + a

-- where the number of the choices a and c of pair k stands among those of the pairs: 'a outer, b inner'
abbrev pub entry_index : Shape → ℕ → ℕ → ℕ → ℕ
entry_index s k a c = entries_before s k + columns_of s k * a + c
