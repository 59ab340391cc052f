-- Document 01, '01 load': the whole new block. 'T becomes s × H, c0 becomes 0, and every unused place becomes 0.' Document 02, change 5: 'FFFFFF in a load means' forbidden, 'and H and T hold −1'.
use Rattle.std.specs.Prelude.{◌≡◌, true, List, [], ℕ, ◌+◌, ◌*◌, ◌<◌, ◌≤◌, ℤ, pos, length, set}
use Rattle.theory.specs.Fold.{iter}
use Rattle.theory.specs.Lists.{nth}
use Rattle.tables.specs.Block.{max_trains, max_choices, max_pairs, trains_place, scale_place, pairs_place, size_place, first_place, second_place, loaded_choice_place, held_choice_place, loaded_entry_place, held_entry_place}
use Rattle.tables.specs.WellFormed.{fresh_block}
use Rattle.tables.specs.Numbers.{Numbers, list_shape, numbers_shape, is_cost, priced}
use Rattle.tables.specs.Plans.{Shape}
use Rattle.tables.specs.Counts.{rows_of, columns_of, choices_before, entries_before}
use Rattle.operations.specs.Order.{order_stored}

-- n, s and m
abbrev pub head_loaded : ℕ → ℕ → ℕ → List ℤ → List ℤ
head_loaded n s m b = set (set (set b trains_place (pos n)) scale_place (pos s)) pairs_place (pos m)

abbrev pub sizes_loaded : List ℕ → List ℤ → List ℤ
sizes_loaded sizes b = iter (length sizes) (λ i d. set d (size_place i) (pos (nth sizes i))) b

abbrev pub pairs_loaded : List ℕ → List ℕ → List ℤ → List ℤ
pairs_loaded firsts seconds b = iter (length firsts) (λ k d. set (set d (first_place k) (pos (nth firsts k))) (second_place k) (pos (nth seconds k))) b

-- a cost: H at place p, and T = s × H at place q; or −1 at both
abbrev pub cost_loaded : ℕ → ℕ → ℕ → ℕ → List ℤ → List ℤ
cost_loaded s c p q b = set (set b p (priced c c)) q (priced c (s * c))

-- a run of costs in points, from `start` on: H at `count` places from `loaded` on, and T at as many from `held` on
abbrev pub run_loaded : ℕ → List ℕ → ℕ → ℕ → ℕ → ℕ → List ℤ → List ℤ
run_loaded s costs start loaded held count b = iter count (λ a. cost_loaded s (nth costs (start + a)) (loaded + a) (held + a)) b

-- each train's costs
abbrev pub choices_loaded : ℕ → Shape → List ℕ → List ℤ → List ℤ
choices_loaded s t choices b = iter t.trains (λ i. run_loaded s choices (choices_before t i) (loaded_choice_place i 0) (held_choice_place i 0) (t.size i)) b

-- the rows of pair k, whose costs begin at `start`
abbrev pub pair_loaded : ℕ → List ℕ → ℕ → ℕ → ℕ → ℕ → List ℤ → List ℤ
pair_loaded s entries start rows columns k b = iter rows (λ a. run_loaded s entries (start + columns * a) (loaded_entry_place k a 0) (held_entry_place k a 0) columns) b

-- each pair's costs
abbrev pub entries_loaded : ℕ → Shape → List ℕ → List ℤ → List ℤ
entries_loaded s t entries b = iter t.pairs (λ k. pair_loaded s entries (entries_before t k) (rows_of t k) (columns_of t k) k) b

-- document 02, change 10: 'a load, also of kind 09, sets 0 to n−1'
abbrev pub order_loaded : ℕ → List ℤ → List ℤ
order_loaded n b = order_stored n (λ d. d) b

-- the block after the load, whatever stood there before
unfoldable pub loaded_block : Numbers → List ℤ
loaded_block l =
    order_loaded (length l.sizes)
    (entries_loaded l.scale (numbers_shape l) l.entries
    (choices_loaded l.scale (numbers_shape l) l.choices
    (pairs_loaded l.firsts l.seconds
    (sizes_loaded l.sizes (head_loaded (length l.sizes) l.scale (length l.firsts) fresh_block)))))

-- ---- what the private functions of load.rt speak of, and what they ask: each a part of `InRange`

-- the trains of these sizes, without pairs
abbrev pub trains_shape : List ℕ → Shape
trains_shape sizes = list_shape sizes [] []

pub record SizesIn (sizes : List ℕ) : Type 0 where
  pub few : length sizes ≤ max_trains
  pub small : (i : ℕ) → i < length sizes → nth sizes i ≤ max_choices

-- the pairs' trains are below n
pub record PairsIn (n : ℕ) (firsts seconds : List ℕ) : Type 0 where
  pub few : length firsts ≤ max_pairs
  pub same : length seconds ≡ length firsts
  pub first : (k : ℕ) → k < length firsts → nth firsts k < n
  pub second : (k : ℕ) → k < length firsts → nth seconds k < n

pub record CostsIn (costs : List ℕ) : Type 0 where
  pub right : (o : ℕ) → is_cost (nth costs o) ≡ true
