-- What the functions promise of the parts of a plan's cost: a figure where nothing is forbidden.
use Rattle.std.specs.Prelude.{Bool, cond, List, ℕ, ℤ, Option, Some, None}
use Rattle.theory.specs.Sum.{sum}
use Rattle.theory.specs.Range.{all}
use Rattle.units.specs.declared.Points.{Points}
use Rattle.units.specs.Units.{the_points}
use Rattle.tables.specs.Block.{trains, pairs, first, second, loaded_choice, loaded_entry}
use Rattle.tables.specs.Plans.{shape_of}

-- so many points, where the test holds
abbrev pub points_if : Bool → ℕ → Option Points
points_if t p = cond t (Some (the_points p)) None

-- the choice of train i, and all choices
abbrev pub choice_cost : List ℤ → (ℕ → ℕ) → ℕ → Option Points
choice_cost b x i = points_if ((shape_of b).choice_open i (x i)) (loaded_choice b i (x i))

abbrev pub choices_cost : List ℤ → (ℕ → ℕ) → Option Points
choices_cost b x = points_if (all (trains b) (λ i. (shape_of b).choice_open i (x i))) (sum (trains b) (λ i. loaded_choice b i (x i)))

-- the entry of pair k, and all pairs
abbrev pub pair_cost : List ℤ → (ℕ → ℕ) → ℕ → Option Points
pair_cost b x k = points_if ((shape_of b).entry_open k (x (first b k)) (x (second b k))) (loaded_entry b k (x (first b k)) (x (second b k)))

abbrev pub pairs_cost : List ℤ → (ℕ → ℕ) → Option Points
pairs_cost b x =
    points_if (all (pairs b) (λ k. (shape_of b).entry_open k (x (first b k)) (x (second b k)))) (sum (pairs b) (λ k. loaded_entry b k (x (first b k)) (x (second b k))))
