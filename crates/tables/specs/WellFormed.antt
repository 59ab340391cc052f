-- Document 01, 'State block', and document 02, change 10: when a block is well formed.
use Rattle.std.specs.Prelude.{◌≡◌, Bool, true, false, cond, not, ◌&&◌, ◌||◌, List, ℕ, zero, suc, ◌+◌, ◌*◌, ◌-◌, ◌/◌, ◌%◌, ◌<◌, leb, ltb, eqb, ℤ, pos, negsuc, length, replicate, drop}
use Rattle.theory.specs.Range.{all, pass}
use Rattle.theory.specs.Order.{each_once}
use Rattle.units.specs.Units.{scale_min, scale_max}
use Rattle.tables.specs.declared.place_limits.Limits.{Limits}
use Rattle.tables.specs.Block.{block_length, max_trains, max_choices, max_pairs, max_cost, max_parts, trains_place, scale_place, pairs_place, sizes_from, firsts_from, seconds_from, loaded_choices_from, held_choices_from, loaded_entries_from, held_entries_from, order_from, at, trains, pairs, size, first, second, order, entries_of_pair}

-- the least and the greatest number that a place may hold, and whether it may hold −1: 'A choice or pair of choices can be forbidden'
abbrev pub limits : ℕ → ℕ → Bool → Limits
limits low high closable = record { low = low; high = high; closable = closable }

abbrev pub from_to : ℕ → ℕ → Limits
from_to low high = limits low high false

-- a cost, or −1
abbrev pub cost_to : ℕ → Limits
cost_to high = limits 0 high true

-- z is from low to high, or −1 where it may be
unfoldable pub within : Limits → ℤ → Bool
within l (pos n) = leb l.low n && leb n l.high
within l (negsuc n) = l.closable && eqb n 0

-- 'unused places 0'
abbrev pub used_if : Bool → Limits → Limits
used_if used l = cond used l (from_to 0 0)

-- the offset is that of a choice of a train: '8 × i + a'
unfoldable pub choice_used : List ℤ → ℕ → Bool
choice_used b o = ltb (o / max_choices) (trains b) && ltb (o % max_choices) (size b (o / max_choices))

-- the offset is that of two choices of a pair: '64 × pair number + 8 × a + b'
unfoldable pub entry_used : List ℤ → ℕ → Bool
entry_used b o = ltb (o / entries_of_pair) (pairs b) && (ltb (o % entries_of_pair / max_choices) (size b (first b (o / entries_of_pair))) && ltb (o % max_choices) (size b (second b (o / entries_of_pair))))

-- 'n is 1 to 24, s 1 to 1000, m 0 to 48, .. c0 .. 0 to L'
unfoldable pub head_limits : ℕ → Limits
head_limits p =
    cond (eqb p trains_place) (from_to 1 max_trains)
    (cond (eqb p scale_place) (from_to scale_min scale_max)
    (cond (eqb p pairs_place) (from_to 0 max_pairs) (from_to 0 max_parts)))

-- 'sizes 1 to 8', and the two trains of each pair
unfoldable pub shape_limits : List ℤ → ℕ → Limits
shape_limits b p =
    cond (ltb p sizes_from) (head_limits p)
    (cond (ltb p firsts_from) (used_if (ltb (p - sizes_from) (trains b)) (from_to 1 max_choices))
    (cond (ltb p seconds_from) (used_if (ltb (p - firsts_from) (pairs b)) (from_to 0 (max_trains - 1)))
    (used_if (ltb (p - seconds_from) (pairs b)) (from_to 0 (max_trains - 1)))))

-- 'H 0 to 1,000,000, .. T 0 to L'
unfoldable pub cost_limits : List ℤ → ℕ → Limits
cost_limits b p =
    cond (ltb p held_choices_from) (used_if (choice_used b (p - loaded_choices_from)) (cost_to max_cost))
    (cond (ltb p loaded_entries_from) (used_if (choice_used b (p - held_choices_from)) (cost_to max_parts))
    (cond (ltb p held_entries_from) (used_if (entry_used b (p - loaded_entries_from)) (cost_to max_cost))
    (used_if (entry_used b (p - held_entries_from)) (cost_to max_parts))))

-- the first n places of the order are each a train, 'and unused places are 0'
unfoldable pub order_limits : List ℤ → ℕ → Limits
order_limits b p = used_if (ltb (p - order_from) (trains b)) (from_to 0 (max_trains - 1))

-- what place p may hold
unfoldable pub limits_at : List ℤ → ℕ → Limits
limits_at b p = cond (ltb p loaded_choices_from) (shape_limits b p) (cond (ltb p order_from) (cost_limits b p) (order_limits b p))

-- every place is within its limits
abbrev pub place_right : List ℤ → ℕ → ℤ → Bool
place_right b p z = within (limits_at b p) z

unfoldable pub places_right : List ℤ → Bool
places_right b = pass (place_right b) 0 b

-- pair (i, j) comes before pair (k, l): 'strictly ascending by (i, j)'
unfoldable pub before : ℕ → ℕ → ℕ → ℕ → Bool
before i j k l = ltb i k || (eqb i k && ltb j l)

-- pair k comes after the one before it, where there is one
unfoldable pub follows : List ℤ → ℕ → Bool
follows b k = eqb k 0 || before (first b (k - 1)) (second b (k - 1)) (first b k) (second b k)

-- 'i not below j, j not below n, pair not after the last' is none of it
unfoldable pub pair_right : List ℤ → ℕ → Bool
pair_right b k = ltb (first b k) (second b k) && (ltb (second b k) (trains b) && follows b k)

-- 'm pairs i < j, strictly ascending by (i, j)'
unfoldable pub pairs_right : List ℤ → Bool
pairs_right b = all (pairs b) (pair_right b)

-- 'a loaded block's order is judged likewise': 'each train exactly once'
unfoldable pub order_right : List ℤ → Bool
order_right b = each_once (trains b) (order b)

-- a number that is not below 0
unfoldable pub is_open : ℤ → Bool
is_open (pos n) = true
is_open (negsuc n) = false

-- both numbers are below 0, or neither is
unfoldable pub mate : ℤ → ℤ → Bool
mate x y = cond (is_open x) (is_open y) (not (is_open y))

-- so it is of the first n numbers of two lists, side by side
unfoldable pub mates : ℕ → List ℤ → List ℤ → Bool
mates zero l m = true
mates (suc n) l m = mate (at l 0) (at m 0) && mates n (drop 1 l) (drop 1 m)

-- 'An entry −1 in one of them only is 16': H and T, choices and pairs
unfoldable pub mated : List ℤ → Bool
mated b = mates (max_trains * max_choices) (drop loaded_choices_from b) (drop held_choices_from b)
    && mates (max_pairs * entries_of_pair) (drop loaded_entries_from b) (drop held_entries_from b)

-- 'Fresh is all zeros'
abbrev pub fresh_block : List ℤ
fresh_block = replicate block_length (pos 0)

unfoldable pub is_zero : ℤ → Bool
is_zero (pos n) = eqb n 0
is_zero (negsuc n) = false

unfoldable pub is_fresh : List ℤ → Bool
is_fresh b = pass (λ p z. is_zero z) 0 b

-- the second half of 'well formed': a block that holds a loaded study
unfoldable pub holds_study : List ℤ → Bool
holds_study b = places_right b && pairs_right b && order_right b && mated b

-- 'A block is well formed if fresh, or ..'
unfoldable pub well_formed : List ℤ → Bool
well_formed b = eqb (length b) block_length && (is_fresh b || holds_study b)

-- a well-formed block that is not fresh, as facts: what the operations ask of their block
pub record Study (b : List ℤ) : Type 0 where
  pub whole : length b ≡ block_length
  pub places : (p : ℕ) → p < block_length → within (limits_at b p) (at b p) ≡ true
  pub ordered : (k : ℕ) → k < pairs b → pair_right b k ≡ true
  pub once : order_right b ≡ true
  pub choices_mated : (o : ℕ) → o < max_trains * max_choices → mate (at b (loaded_choices_from + o)) (at b (held_choices_from + o)) ≡ true
  pub entries_mated : (o : ℕ) → o < max_pairs * entries_of_pair → mate (at b (loaded_entries_from + o)) (at b (held_entries_from + o)) ≡ true
