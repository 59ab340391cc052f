-- The numbers of a load line, as lists: what a load stores, and what the ledger keeps.
use Rattle.std.specs.Prelude.{List, [], ◌++◌, ℕ, zero, suc}
use Rattle.theory.specs.Lists.{list_of}
use Rattle.tables.specs.Numbers.{Numbers, numbers}
use Rattle.lines.specs.Layout.{load_trains, load_scale, load_size, choice_count, load_pairs, entry_count, pair_at, load_first, load_second, numbers_in, choice_field, entry_field}

-- the costs of the first k pairs, one pair after the other
unfoldable pub entries_of : List ℕ → ℕ → List ℕ
entries_of l zero = []
entries_of l (suc k) = entries_of l k ++ numbers_in l (entry_field (pair_at l k)) (entry_count l (pair_at l k))

unfoldable pub numbers_of : List ℕ → Numbers
numbers_of l =
    numbers (load_scale l) (list_of (load_trains l) (load_size l)) (numbers_in l (choice_field l) (choice_count l))
    (list_of (load_pairs l) (load_first l)) (list_of (load_pairs l) (load_second l)) (entries_of l (load_pairs l))
