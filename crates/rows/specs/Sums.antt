-- What the rows hold, and what carrying a choice to them does.
use Rattle.std.specs.Prelude.{◌≡◌, List, [], ℕ, ◌+◌, ◌<◌, length, get_or}
use Rattle.tables.specs.Block.{max_choices}
use Rattle.tables.specs.Plans.{Shape, Costs, choices_of}
use Rattle.rows.specs.declared.table.Table.{Table}
use Rattle.rows.specs.Walled.{wall}
use Rattle.rows.specs.Limits.{Walkable, Limited}
use Rattle.rows.specs.Added.{sum_below}
use Rattle.rows.specs.Links.{own_row, pair_row, row_count}
use Rattle.rows.specs.Table.{sum_at, begin_of, Laid}

-- a row of sums: a number for each choice of a train, also for those past its last
pub record Sums (f : ℕ → ℕ) (l : List ℕ) : Type 0 where
  pub whole : length l ≡ max_choices
  pub each : (a : ℕ) → a < max_choices → get_or l a 0 ≡ f a

-- the rows of the pairs below f are summed, with the choices x
pub record Summed (s : Shape) (c : Costs) (x : ℕ → ℕ) (q : List (List ℕ)) (f : ℕ) : Type 0 where
  pub whole : length q ≡ row_count
  pub own : (j a : ℕ) → j < s.trains → a < max_choices → sum_at q (own_row j) a ≡ c.choice j a
  pub rows : (k a : ℕ) → k < f → a < max_choices → sum_at q (pair_row k) a ≡ sum_below s c x (s.second k) a (k + 1)

-- the rows before that of pair f stay
pub record Steady (f : ℕ) (q q₁ : List (List ℕ)) : Type 0 where
  pub same : length q₁ ≡ length q
  pub stays : (p : ℕ) → p < pair_row f → get_or q₁ p [] ≡ get_or q p []

-- the choice of train t is carried to the sums: l is the table of this shape and these costs, and q the sums so far
pub record Carrying (s : Shape) (c : Costs) (scale bound : ℕ) (l : Table) (q : List (List ℕ)) (t : ℕ) (chosen : List ℕ) : Type 0 where
  pub walkable : Walkable s
  pub limited : Limited s c wall
  pub laid : Laid s c scale bound l
  pub train : t < s.trains
  pub below : (i : ℕ) → i < t + 1 → get_or chosen i 0 < s.size i
  pub summed : Summed s c (choices_of chosen) q (begin_of l t)

-- so stand some shape and costs that have this table
pub record Carry (l : Table) (q : List (List ℕ)) (t : ℕ) (chosen : List ℕ) : Type 0 where
  pub shape : Shape
  pub costs : Costs
  pub scale : ℕ
  pub bound : ℕ
  pub at : Carrying shape costs scale bound l q t chosen

-- for every shape and costs that have this table: the rows of the pairs that t begins are summed too
pub record CarriedTo (l : Table) (q : List (List ℕ)) (t : ℕ) (chosen : List ℕ) (q₁ : List (List ℕ)) : Type 0 where
  pub summed : (s : Shape) (c : Costs) (scale bound : ℕ) → Carrying s c scale bound l q t chosen → Summed s c (choices_of chosen) q₁ (begin_of l (t + 1))
  pub steady : Steady (begin_of l t) q q₁
