-- How many numbers a study asks for, at most; and those of a train or of a pair are among those of all.
use mathlib.Core.List.{List}
use Prim.Native.Nat.{ℕ, ◌+◌, ◌*◌, ◌<◌, ◌≤◌}
use native.Mathlib.Nat.{mul-le-mul}
use native.Mathlib.Omega.{arith}
use lib.IntN.{ℤ}
use Rattle.theory.proofs.Sum.{sum_most, sum_part}
use Rattle.tables.specs.Block.{max_trains, max_choices, max_pairs, entries_of_pair, trains, pairs, size}
use Rattle.tables.specs.WellFormed.{Study}
use Rattle.tables.specs.Plans.{Shape, shape_of}
use Rattle.tables.specs.Counts.{rows_of, columns_of, pair_entries, pair_moves, choices_before, choice_count, entries_before, entry_count, moves_before, move_count, weight_count}
use Rattle.tables.proofs.Study.{trains_range, pairs_range, size_range, first-below-trains, second-below-trains}

module _ (s : Shape) where
  -- the choices of train i are among the first n trains', and the entries and the moves of pair k among the first m pairs'
  pub choices_part : (i n : ℕ) → i < n → choices_before s i + s.size i ≤ choices_before s n
  choices_part i n h = sum_part n i s.size h

  pub entries_part : (k m : ℕ) → k < m → entries_before s k + pair_entries s k ≤ entries_before s m
  entries_part k m h = sum_part m k (pair_entries s) h

  pub moves_part : (k m : ℕ) → k < m → moves_before s k + pair_moves s k ≤ moves_before s m
  moves_part k m h = sum_part m k (pair_moves s) h

module _ {b : List ℤ} (s : Study b) where
  -- the lanes of a pair
  module _ (k : ℕ) (h : k < pairs b) where
    pub rows_range : (1 ≤ rows_of (shape_of b) k) × (rows_of (shape_of b) k ≤ max_choices)
    rows_range = size_range s _ (first-below-trains s k h)

    pub columns_range : (1 ≤ columns_of (shape_of b) k) × (columns_of (shape_of b) k ≤ max_choices)
    columns_range = size_range s _ (second-below-trains s k h)

    pub entries_range : pair_entries (shape_of b) k ≤ entries_of_pair
    entries_range = mul-le-mul rows_range.1 columns_range.1

  -- a loop over the trains, or over the pairs, so far
  pub choices_most : (i : ℕ) → i ≤ trains b → choices_before (shape_of b) i ≤ i * max_choices
  choices_most i h = sum_most i max_choices (size b) (λ j q. (size_range s j (omega arith)).1)

  pub entries_most : (k : ℕ) → k ≤ pairs b → entries_before (shape_of b) k ≤ k * entries_of_pair
  entries_most k h = sum_most k entries_of_pair (pair_entries (shape_of b)) (λ j q. entries_range j (omega arith))

  pub moves_most : (k : ℕ) → k ≤ pairs b → moves_before (shape_of b) k ≤ k * (2 * max_choices)
  moves_most k h = sum_most k (2 * max_choices) (pair_moves (shape_of b)) (λ j q. omega (arith, rows_range j (omega arith), columns_range j (omega arith)))

  -- all of them
  pub choice_count_most : choice_count (shape_of b) ≤ max_trains * max_choices
  choice_count_most = omega (arith, choices_most (trains b) (omega arith), trains_range s)

  pub entry_count_most : entry_count (shape_of b) ≤ max_pairs * entries_of_pair
  entry_count_most = omega (arith, entries_most (pairs b) (omega arith), pairs_range s)

  pub move_count_most : move_count (shape_of b) ≤ max_pairs * (2 * max_choices)
  move_count_most = omega (arith, moves_most (pairs b) (omega arith), pairs_range s)

  pub weight_count_most : weight_count (shape_of b) ≤ max_trains * max_choices + max_pairs * entries_of_pair
  weight_count_most = omega (arith, choice_count_most, entry_count_most)

-- the most that is counted
pub ruleset counting = (trains_range, pairs_range, size_range, rows_range, columns_range, entries_range, choices_most, entries_most, moves_most)
