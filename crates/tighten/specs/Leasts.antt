-- Document 01, '04 tighten', as what stands afterwards at permitted entries: after the turn of a pair, after the trains' turn, and at the end. A least is over permitted entries, and 0 where
-- there are none.
use Rattle.std.specs.Prelude.{cond, List, ℕ, ◌+◌, ◌-◌, eqb, ℤ, pos, ◌-ℤ◌}
use Rattle.theory.specs.Sum.{sum}
use Rattle.tables.specs.Block.{trains, pairs, size, first, second, constant, held_choice, held_entry}
use Rattle.tables.specs.Plans.{shape_of}
use Rattle.rewriting.specs.Leasts.{least_open}
use Rattle.rewriting.specs.Ends.{of_pair, Ends}

-- 'for each a ascending, the least c_ij(a,b) over b': of row a of pair k
abbrev pub row_least : List ℤ → ℕ → ℕ → ℕ
row_least b k a = least_open (size b (second b k)) (λ d. (shape_of b).entry_open k a d) (λ d. held_entry b k a d)

-- 'Then for each b ascending the least over a': of what the rows leave in column d
abbrev pub rest_least : List ℤ → ℕ → ℕ → ℕ
rest_least b k d = least_open (size b (first b k)) (λ a. (shape_of b).entry_open k a d) (λ a. held_entry b k a d - row_least b k a)

-- what the turn of pair k brings to choice a of train i: rows give to the first train, columns to the second
abbrev pub gain : List ℤ → ℕ → ℕ → ℕ → ℕ
gain b i a k = of_pair b k i (row_least b k a) (rest_least b k a) 0

-- what is left of an entry of pair k
abbrev pub entry_left : List ℤ → ℕ → ℕ → ℕ → ℤ
entry_left b k a d = (pos (held_entry b k a d) -ℤ pos (row_least b k a)) -ℤ pos (rest_least b k d)

-- after the turn of pair k
abbrev pub pair_ends : List ℤ → ℕ → Ends
pair_ends b k =
    record {
      constant = pos (constant b);
      choice = λ i a. pos (held_choice b i a + gain b i a k);
      entry = λ l a d. cond (eqb l k) (entry_left b k a d) (pos (held_entry b l a d));
    }

-- 'the least c_i(a)' of train i, where the choices cost f
abbrev pub train_least : List ℤ → (ℕ → ℕ → ℕ) → ℕ → ℕ
train_least b f i = least_open (size b i) (λ a. (shape_of b).choice_open i a) (f i)

-- 'After all pairs, by train, the least c_i(a) is taken off every choice and added to c0': after the trains' turn, where the choices cost f and the entries e before
abbrev pub trains_ends : List ℤ → (ℕ → ℕ → ℕ) → (ℕ → ℕ → ℕ → ℤ) → Ends
trains_ends b f e = record { constant = pos (constant b + sum (trains b) (train_least b f)); choice = λ i a. pos (f i a) -ℤ pos (train_least b f i); entry = e }

-- the end, by the block as it was: a pair's turn reads no entries but its own, and changes no entries but its own
abbrev pub tighten_ends : List ℤ → Ends
tighten_ends b = trains_ends b (λ i a. held_choice b i a + sum (pairs b) (gain b i a)) (entry_left b)
