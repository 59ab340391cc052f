-- What is level in the dearest study: each partial total before the last train is 0, and each plan's is 1, so that its search drops no try before the last train.
use Rattle.std.specs.Prelude.{◌≡◌, true, ℕ, ◌+◌, ◌<◌}
use Rattle.tables.specs.Plans.{Shape, Costs}

-- no pairs, no forbidden choice; a choice costs 1 at the last train and 0 at the others
pub record Level (s : Shape) (c : Costs) : Type 0 where
  pub constant : c.constant ≡ 0
  pub pairs : s.pairs ≡ 0
  pub before : (t a : ℕ) → t + 1 < s.trains → a < s.size t → c.choice t a ≡ 0
  pub last : (t a : ℕ) → t + 1 ≡ s.trains → a < s.size t → c.choice t a ≡ 1
  pub permitted : (t a : ℕ) → t < s.trains → a < s.size t → s.choice_open t a ≡ true
