-- Document 02, change 11: what a plan costs, and when the figures of its record are right.
use Rattle.std.specs.Prelude.{Bool, cond, ◌&&◌, List, ℕ, leb, eqb, ℤ, Option, Some, None}
use Rattle.units.specs.declared.Points.{Points}
use Rattle.units.specs.Units.{the_points}
use Rattle.tables.specs.Plans.{shape_of, plan_open, loaded_total}

-- 'the plan's total in H', where none of its entries is forbidden
unfoldable pub plan_cost : List ℤ → (ℕ → ℕ) → Option Points
plan_cost b x = cond (plan_open (shape_of b) x) (Some (the_points (loaded_total b x))) None

-- not 23: 'cost isn't the plan's total in H, bound above it, or a forbidden entry'
unfoldable pub record_right : List ℤ → (ℕ → ℕ) → ℕ → ℕ → Bool
record_right b x bound cost = plan_open (shape_of b) x && eqb cost (loaded_total b x) && leb bound (loaded_total b x)
