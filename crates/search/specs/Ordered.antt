-- Document 02, change 10: the search of a block with its trains in an order.
use Rattle.std.specs.Prelude.{Bool, List, ℕ, ℤ}
use Rattle.tables.specs.Block.{trains, order}
use Rattle.tables.specs.Plans.{shape_of, held_costs}
use Rattle.orders.specs.Ordered.{ordered_shape, ordered_costs, by_train}
use Rattle.search.specs.Walk.{Walk, walked, never, at_bound}

-- a walk with another plan
abbrev pub with_plan : Walk → List ℕ → Walk
with_plan w plan = record { count = w.count; spent = w.spent; met = w.met; found = w.found; best = w.best; plan = plan }

-- 'replies still list choices by train number': a walk over n places, with its plan by trains
abbrev pub walk_by_train : ℕ → (ℕ → ℕ) → Walk → Walk
walk_by_train n order w = with_plan w (by_train n order w.plan)

-- 'The walk opens trains in that order': it goes over the trains by places
unfoldable pub walked_in : (ℕ → ℕ) → List ℤ → (ℕ → Bool) → ℕ → Walk
walked_in order b meets budget = walked (ordered_shape order (shape_of b)) (ordered_costs order (shape_of b) (held_costs b)) meets budget

unfoldable pub searched_in : (ℕ → ℕ) → List ℤ → ℕ → Walk
searched_in order b budget = walk_by_train (trains b) order (walked_in order b (at_bound b) budget)

-- the same with no bound that ends it
unfoldable pub searched_on_in : (ℕ → ℕ) → List ℤ → ℕ → Walk
searched_on_in order b budget = walk_by_train (trains b) order (walked_in order b never budget)

-- the search of a block, in the block's order
unfoldable pub searched : List ℤ → ℕ → Walk
searched b budget = searched_in (order b) b budget
