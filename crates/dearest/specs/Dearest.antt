-- Document 02, change 13: 'The dearest study of given sizes'. Of the lines that may be chosen it is the one whose study has no pairs, and costs 0 for every choice but those of the last train, which cost 1 each.
use Rattle.std.specs.Prelude.{Bool, cond, List, [], ℕ, ◌-◌, ◌<◌, ◌≤◌, leb, length}
use Rattle.theory.specs.Sum.{sum}
use Rattle.theory.specs.Lists.{nth, list_of}
use Rattle.theory.specs.Tries.{tries_of}
use Rattle.tables.specs.Block.{max_trains, max_choices}
use Rattle.tables.specs.Numbers.{Numbers, numbers}

-- n and the sizes are within their limits
pub record SizesRight (sizes : List ℕ) : Type 0 where
  pub trains : (1 ≤ length sizes) × (length sizes ≤ max_trains)
  pub each : (i : ℕ) → i < length sizes → (1 ≤ nth sizes i) × (nth sizes i ≤ max_choices)

-- ---- how many choices its search tries

-- '24, that sum exceeds 10,000,000'
abbrev pub max_tries : ℕ
max_tries = 10000000

-- 'That number is the sum of the products of the first 1, 2, up to n sizes'
abbrev pub dearest_tries : List ℕ → ℕ
dearest_tries sizes = tries_of (length sizes) (nth sizes)

abbrev pub tries_within : List ℕ → Bool
tries_within sizes = leb (dearest_tries sizes) max_tries

-- ---- its numbers

-- the choices of the last train come behind those of all trains before it
abbrev pub dearest_cost : List ℕ → ℕ → ℕ
dearest_cost sizes o = cond (leb (sum (length sizes - 1) (nth sizes)) o) 1 0

abbrev pub dearest_costs : List ℕ → List ℕ
dearest_costs sizes = list_of (sum (length sizes) (nth sizes)) (dearest_cost sizes)

-- 'The line has s = 1'
unfoldable pub dearest : List ℕ → Numbers
dearest sizes = numbers 1 sizes (dearest_costs sizes) [] [] []
