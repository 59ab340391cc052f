-- What `all_zero` of places.rt and the private functions of well_formed.rt answer, row by row. Nothing here is part of the rule: proofs/Rows.antt brings it to `well_formed`.
use Rattle.std.specs.Prelude.{Bool, cond, List, ℕ, ◌+◌, ◌*◌, ◌-◌, ltb, ℤ}
use Rattle.theory.specs.Range.{all}
use Rattle.tables.specs.declared.place_limits.Limits.{Limits}
use Rattle.tables.specs.Block.{max_trains, max_choices, max_pairs, entries_of_pair, loaded_choices_from, order_from, at, trains, pairs, size, first, second}
use Rattle.tables.specs.WellFormed.{from_to, within, mate, used_if, choice_used, entry_used, place_right}

-- `count` places from `from` on are within the limits
abbrev pub run_within : List ℤ → ℕ → ℕ → Limits → Bool
run_within b from count l = all count (λ k. within l (at b (from + k)))

-- `count` places from `from` on and from `to` on are mates
abbrev pub run_mated : List ℤ → ℕ → ℕ → ℕ → Bool
run_mated b from to count = all count (λ k. mate (at b (from + k)) (at b (to + k)))

-- of `width` places from `from` on the first `used` are within the limits, and the others are unused
abbrev pub row_within : List ℤ → ℕ → ℕ → ℕ → Limits → Bool
row_within b from width used l = all width (λ k. within (used_if (ltb k used) l) (at b (from + k)))

-- place p is within its limits
abbrev pub right_at : List ℤ → ℕ → Bool
right_at b p = place_right b p (at b p)

-- n, s, m and c0 are within their limits
abbrev pub head_right : List ℤ → Bool
head_right b = all 4 (right_at b)

-- so are the sizes and the pairs' trains
abbrev pub shape_right : List ℤ → Bool
shape_right b = all loaded_choices_from (right_at b)

-- how many choices of train i are used
abbrev pub choices_used : List ℤ → ℕ → ℕ
choices_used b i = cond (ltb i (trains b)) (size b i) 0

-- how many entries of row a of pair k are used
abbrev pub entries_used : List ℤ → ℕ → ℕ → ℕ
entries_used b k a = cond (ltb k (pairs b)) (cond (ltb a (size b (first b k))) (size b (second b k)) 0) 0

-- the table of choices that begins at `from` is within the limits
abbrev pub choices_within : List ℤ → ℕ → Limits → Bool
choices_within b from l = all (max_trains * max_choices) (λ o. within (used_if (choice_used b o) l) (at b (from + o)))

-- the places of pair k in the table that begins at `from` are within the limits
abbrev pub pair_within : List ℤ → ℕ → ℕ → Limits → Bool
pair_within b from k l = all entries_of_pair (λ o. within (used_if (entry_used b (entries_of_pair * k + o)) l) (at b (from + (entries_of_pair * k + o))))

-- the table of pairs that begins at `from` is within the limits
abbrev pub entries_within : List ℤ → ℕ → Limits → Bool
entries_within b from l = all (max_pairs * entries_of_pair) (λ o. within (used_if (entry_used b o) l) (at b (from + o)))

-- the places of the order are within their limits
abbrev pub order_within : List ℤ → Bool
order_within b = row_within b order_from max_trains (trains b) (from_to 0 (max_trains - 1))
