-- Rows of sums: a row of eight for each train, with its choices' own costs, and one for each pair, with what its second train's choices come to so far.
use Rattle.std.specs.Prelude.{◌≡◌, ◌⊎◌, ℕ, ◌+◌, ◌<◌, ◌≤◌}
use Rattle.tables.specs.Block.{max_trains, max_pairs}
use Rattle.tables.specs.Plans.{Shape}

-- which row is a train's own, and behind all of these which is a pair's
abbrev pub own_row : ℕ → ℕ
own_row j = j

abbrev pub pair_row : ℕ → ℕ
pair_row k = own_row max_trains + k

-- how many rows there are
abbrev pub row_count : ℕ
row_count = pair_row max_pairs

-- train j completes no pair below k, and p is its own row
pub record Own (s : Shape) (j k p : ℕ) : Type 0 where
  pub place : p ≡ own_row j
  pub none : (i : ℕ) → i < k → s.second i ≡ j → ⊥

-- or p is the row of the last pair below k that it completes
pub record Row (s : Shape) (j k p : ℕ) : Type 0 where
  pub pair : ℕ
  pub place : p ≡ pair_row pair
  pub low : pair < k
  pub here : s.second pair ≡ j
  pub skipped : (i : ℕ) → pair < i → i < k → s.second i ≡ j → ⊥

-- the row in which train j is summed over the pairs below k
abbrev pub Back : Shape → ℕ → ℕ → ℕ → Type 0
Back s j k p = Own s j k p ⊎ Row s j k p

-- l is the first pair whose first train is t or later, or m
pub record Begin (s : Shape) (t l : ℕ) : Type 0 where
  pub high : l ≤ s.pairs
  pub before : (k : ℕ) → k < l → s.first k < t
  pub after : (k : ℕ) → l ≤ k → k < s.pairs → t ≤ s.first k
