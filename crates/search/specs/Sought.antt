-- What a walk in the code goes over, and within which limits. Only `sought_in` knows a study.
use Rattle.std.specs.Prelude.{◌≡◌, Bool, cond, ℕ, ◌<◌, eqb}
use Rattle.theory.specs.Lists.{nth}
use Rattle.units.specs.Units.{rounded_up}
use Rattle.tables.specs.Block.{max_parts, scale}
use Rattle.tables.specs.Plans.{Shape, Costs, shape_of, held_costs}
use Rattle.bounds.specs.Bounds.{bound_of}
use Rattle.orders.specs.Ordered.{ordered_costs}
use Rattle.orders.specs.Listed.{renumbered_costs}
use Rattle.rows.specs.declared.listing.Listing.{Listing}
use Rattle.rows.specs.Listing.{numbers_of, shape_in, costs_in}
use Rattle.rows.specs.Walled.{wall}
use Rattle.rows.specs.Limits.{Walkable, Limited}

-- a shape with its costs, the same costs with a wall for each forbidden entry, and the scale and the bound by which a plan's total ends the walk
pub record Sought : Type 0 where
  pub shape : Shape
  pub costs : Costs
  pub walls : Costs
  pub scale : ℕ
  pub bound : ℕ

-- a total's cost is the bound: both in points
abbrev pub meets_at : Sought → ℕ → Bool
meets_at p total = eqb (rounded_up p.scale total) p.bound

-- u has the costs of c, and the wall for each forbidden entry
pub record Walled (s : Shape) (c u : Costs) : Type 0 where
  pub choice : (i a : ℕ) → i < s.trains → a < s.size i → u.choice i a ≡ cond (s.choice_open i a) (c.choice i a) wall
  pub entry : (k a e : ℕ) → k < s.pairs → a < s.size (s.first k) → e < s.size (s.second k) → u.pair k a e ≡ cond (s.entry_open k a e) (c.pair k a e) wall

-- the code can search it: it is within the limits of a block, so every sum fits its number, and no total of permitted entries reaches the wall
pub record Searchable (p : Sought) : Type 0 where
  pub walkable : Walkable p.shape
  pub low : Limited p.shape p.costs max_parts
  pub high : Limited p.shape p.walls wall
  pub walled : Walled p.shape p.costs p.walls

-- what a search of a listing goes over
abbrev pub sought_in : Listing → Sought
sought_in l =
    record {
      shape = shape_in l;
      costs = renumbered_costs (nth l.list) (ordered_costs (nth l.ordered.order) (shape_of (numbers_of l)) (held_costs (numbers_of l)));
      walls = costs_in l;
      scale = scale (numbers_of l);
      bound = bound_of (numbers_of l);
    }
