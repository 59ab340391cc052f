-- What rows of sums, and a walk that goes by them, ask of a shape and its costs. The study of a block has it.
use Rattle.std.specs.Prelude.{ℕ, ◌<◌, ◌≤◌}
use Rattle.tables.specs.Block.{max_trains, max_choices, max_pairs}
use Rattle.tables.specs.Plans.{Shape, Costs}

-- each train has a choice, a pair's trains ascend and are there, and a list of choices has a place for each train
pub record Walkable (s : Shape) : Type 0 where
  pub room : s.trains ≤ max_trains
  pub filled : (i : ℕ) → i < s.trains → 0 < s.size i
  pub ascends : (k : ℕ) → k < s.pairs → s.first k < s.second k
  pub inside : (k : ℕ) → k < s.pairs → s.second k < s.trains

-- sizes and pairs are within the limits of a block, and no cost is above `most`
pub record Limited (s : Shape) (c : Costs) (most : ℕ) : Type 0 where
  pub constant : c.constant ≤ most
  pub sizes : (i : ℕ) → i < s.trains → s.size i ≤ max_choices
  pub pairs : s.pairs ≤ max_pairs
  pub choice : (i a : ℕ) → i < s.trains → a < max_choices → c.choice i a ≤ most
  pub entry : (k a e : ℕ) → k < s.pairs → a < max_choices → e < max_choices → c.pair k a e ≤ most
