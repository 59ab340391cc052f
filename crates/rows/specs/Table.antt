-- The table of a search: what the walk reads of a shape and its costs.
use Rattle.std.specs.Prelude.{◌≡◌, List, [], ℕ, ◌+◌, ◌*◌, ◌<◌, length, get_or, set}
use Rattle.units.specs.Units.{number_of_points}
use Rattle.tables.specs.Block.{max_trains, max_choices, max_pairs}
use Rattle.tables.specs.Plans.{Shape, Costs}
use Rattle.rows.specs.declared.links.Links.{Links}
use Rattle.rows.specs.declared.table.Table.{Table}
use Rattle.rows.specs.Links.{own_row, pair_row, row_count, Back, Begin}

-- ---- what stands there

-- the sum at choice a in row r
abbrev pub sum_at : List (List ℕ) → ℕ → ℕ → ℕ
sum_at q r a = get_or (get_or q r []) a 0

-- the row with the costs of pair k at choice c of its first train
abbrev pub cost_row : ℕ → ℕ → ℕ
cost_row k c = max_choices * k + c

-- the cost of pair k at choice c of its first train and choice a of its second
abbrev pub cost_at : List (List ℕ) → ℕ → ℕ → ℕ → ℕ
cost_at l k c a = sum_at l (cost_row k c) a

-- the first pair of train t
abbrev pub begin_of : Table → ℕ → ℕ
begin_of l t = get_or l.begins t 0

-- the table of a shape and its costs, with the scale and the bound that totals are compared by. A train that is opened completes its pairs, whatever their number: none of them begins at it or later
pub record Laid (s : Shape) (c : Costs) (scale bound : ℕ) (l : Table) : Type 0 where
  pub trains_held : l.trains ≡ s.trains
  pub scale_held : l.scale ≡ scale
  pub bound_held : number_of_points l.bound ≡ bound
  pub sizes : (t : ℕ) → t < s.trains → get_or l.sizes t 0 ≡ s.size t
  pub ends : (t : ℕ) → t < s.trains → Back s t s.pairs (get_or l.ends t 0)
  pub bases : (k : ℕ) → k < s.pairs → Back s (s.second k) k (get_or l.bases k 0)
  pub begins : (t : ℕ) → t < s.trains + 1 → Begin s t (begin_of l t)
  pub rows : (k e a : ℕ) → k < s.pairs → e < s.size (s.first k) → a < max_choices → cost_at l.costs.now k e a ≡ c.pair k e a

-- each train's own row
pub record Owned (s : Shape) (c : Costs) (q : List (List ℕ)) : Type 0 where
  pub whole : length q ≡ row_count
  pub own : (j a : ℕ) → j < s.trains → a < max_choices → sum_at q (own_row j) a ≡ c.choice j a

-- ---- how it is laid

-- the first d rows of pair k are laid
abbrev pub RowsLaid : Costs → ℕ → ℕ → List (List ℕ) → Type 0
RowsLaid c k d l = (e a : ℕ) → e < d → a < max_choices → cost_at l k e a ≡ c.pair k e a

-- the used rows of the first k pairs are laid
abbrev pub CostsLaid : Shape → Costs → ℕ → List (List ℕ) → Type 0
CostsLaid s c k l = (i : ℕ) → i < k → RowsLaid c i (s.size (s.first i)) l

-- no pair is linked: each train has its own row
pub record Unlinked (l : Links) : Type 0 where
  pub ends_whole : length l.ends ≡ max_trains
  pub bases_whole : length l.bases ≡ max_pairs
  pub own : (j : ℕ) → j < max_trains → get_or l.ends j 0 ≡ own_row j

-- pair k is linked: its costs are added to the last row so far of its second train, and its own row is now the last
abbrev pub linked_pair : Shape → ℕ → Links → Links
linked_pair s k l = record { ends = set l.ends (s.second k) (pair_row k); bases = set l.bases k (get_or l.ends (s.second k) 0) }

-- the first k pairs are linked
pub record Linked (s : Shape) (k : ℕ) (l : Links) : Type 0 where
  pub ends_whole : length l.ends ≡ max_trains
  pub bases_whole : length l.bases ≡ max_pairs
  pub ends : (j : ℕ) → j < s.trains → Back s j k (get_or l.ends j 0)
  pub bases : (i : ℕ) → i < k → Back s (s.second i) i (get_or l.bases i 0)
