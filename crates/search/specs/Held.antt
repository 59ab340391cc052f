-- The walk as the code holds it: the tries left, the total to beat with what was left when the bound was met, and the best plan; and where it stands.
use Rattle.std.specs.Prelude.{◌≡◌, Bool, cond, List, ℕ, ◌+◌, ◌-◌, ◌<◌, ◌≤◌, leb, ltb, eqb, length, get_or, set}
use Rattle.units.specs.Units.{the_parts, number_of_points, rounded_up}
use Rattle.tables.specs.Plans.{choices_of}
use Rattle.rows.specs.declared.table.Table.{Table}
use Rattle.rows.specs.Walled.{wall}
use Rattle.rows.specs.Table.{begin_of, Laid}
use Rattle.rows.specs.Sums.{Summed, Steady}
use Rattle.search.specs.declared.walk.Best.{Best}
use Rattle.search.specs.declared.walk.Search.{Search}
use Rattle.search.specs.Walk.{Walk, added, Decided, one_try, tried_from, opened_train}
use Rattle.search.specs.Sought.{Sought, Searchable, meets_at}

-- ---- a walk by the numbers that are held

-- the total to beat while no plan is known: the wall, which no total without a forbidden entry reaches
abbrev pub unknown : ℕ
unknown = wall

-- what is left of the walk by `left`, the number that is handed on: one more than the tries left, and 0 once nothing more is tried
abbrev pub left_of : ℕ → Best → ℕ
left_of left best = left + best.left_then

-- a walk by `left` and the best. It is spent where nothing is left
unfoldable pub walk_of : ℕ → ℕ → Best → Walk
walk_of budget left best =
    record {
      count = budget - (left_of left best - 1);
      spent = eqb (left_of left best) 0;
      met = ltb 0 best.left_then;
      found = ltb best.to_beat unknown;
      best = the_parts (cond (ltb best.to_beat unknown) best.to_beat 0);
      plan = best.plan;
    }

-- whether a total meets the bound, by what stands in the table
abbrev pub meets_by : Table → ℕ → Bool
meets_by l total = eqb (rounded_up l.scale total) (number_of_points l.bound)

-- a whole plan becomes the best, with `rest` left: where it meets the bound nothing is handed on, and `rest` is kept
abbrev pub best_by : Bool → ℕ → ℕ → List ℕ → Best
best_by meets total rest chosen = record { to_beat = total; left_then = cond meets rest 0; plan = chosen }

abbrev pub handed_on : Bool → ℕ → ℕ
handed_on meets rest = cond meets 0 rest

module _ (p : Sought) where
  -- what choice a of train t comes to, with a wall for each forbidden entry
  abbrev pub comes_to : ℕ → ℕ → List ℕ → ℕ → ℕ
  comes_to t partial chosen a = partial + added p.shape p.walls (choices_of (set chosen t a)) t

  -- the try of choice a at train t, which comes to `total`: at the wall or above it, a forbidden entry is brought in
  unfoldable pub try_of : ℕ → ℕ → ℕ → List ℕ → ℕ → Walk → Walk
  try_of budget t total chosen a = one_try budget (leb wall total) total (opened_train p.shape p.costs (meets_at p) budget (p.shape.trains - (t + 1)) (t + 1) total (set chosen t a))

  -- the same, by what the choice comes to
  abbrev pub choice_of : ℕ → ℕ → ℕ → List ℕ → ℕ → Walk → Walk
  choice_of budget t partial chosen a = try_of budget t (comes_to t partial chosen a) chosen a

  -- the tries of a train's choices from a on
  abbrev pub choices_from : ℕ → ℕ → ℕ → ℕ → List ℕ → Walk → Walk
  choices_from budget t a partial chosen = tried_from (choice_of budget t partial chosen) (p.shape.size t - a) a

-- ---- the choices

-- two lists of choices that differ at trains from t on only
pub record Alike (t n : ℕ) (x y : List ℕ) : Type 0 where
  pub same : length x ≡ length y
  pub before : (i : ℕ) → i < t → get_or x i 0 ≡ get_or y i 0
  pub after : (i : ℕ) → n ≤ i → get_or x i 0 ≡ get_or y i 0

-- ---- where the walk stands

-- train t is opened: l is the table of what is sought, and q the sums so far
pub record At (p : Sought) (l : Table) (q : List (List ℕ)) (t partial : ℕ) (chosen : List ℕ) : Type 0 where
  pub searchable : Searchable p
  pub laid : Laid p.shape p.walls p.scale p.bound l
  pub train : t < p.shape.trains
  pub decided : Decided p.shape p.costs t partial chosen
  pub summed : Summed p.shape p.walls (choices_of chosen) q (begin_of l t)

-- or its choice a is tried: with it, below the wall, train t is decided too
pub record Trying (p : Sought) (l : Table) (q : List (List ℕ)) (t a total : ℕ) (chosen : List ℕ) : Type 0 where
  pub searchable : Searchable p
  pub laid : Laid p.shape p.walls p.scale p.bound l
  pub train : t < p.shape.trains
  pub choice : a < p.shape.size t
  pub decided : total < wall → Decided p.shape p.costs (t + 1) total (set chosen t a)
  pub summed : Summed p.shape p.walls (choices_of chosen) q (begin_of l t)

-- nothing is left to hand on once the bound is met, and the total to beat is not above the wall
pub record Going (left : ℕ) (best : Best) : Type 0 where
  pub unmet : 0 < left → best.left_then ≡ 0
  pub low : best.to_beat ≤ wall

-- so stands something sought that has this table
pub record Opened (s : Search) (t partial left : ℕ) : Type 0 where
  pub sought : Sought
  pub at : At sought s.table.now s.sums t partial s.chosen
  pub going : Going left s.best

pub record Tried (s : Search) (t a total left : ℕ) : Type 0 where
  pub sought : Sought
  pub at : Trying sought s.table.now s.sums t a total s.chosen
  pub going : Going left s.best

-- ---- where it leads

-- what is left and the total to beat never rise, and the table, the choices and the rows before t stay
pub record Later (s : Search) (t left left₁ : ℕ) (s₁ : Search) : Type 0 where
  pub table : s₁.table ≡ s.table
  pub fewer : left_of left₁ s₁.best ≤ left_of left s.best
  pub going : Going left₁ s₁.best
  pub kept : Alike t s.table.now.trains s.chosen s₁.chosen
  pub steady : Steady (begin_of s.table.now t) s.sums s₁.sums

-- what opening train t leads to: for all that is sought and has this table, and every budget, what the definition says
pub record OpenedTo (s : Search) (t partial left left₁ : ℕ) (s₁ : Search) : Type 0 where
  pub walk : (p : Sought) (budget : ℕ) → At p s.table.now s.sums t partial s.chosen → left_of left s.best ≤ budget + 1
      → walk_of budget left₁ s₁.best ≡ choices_from p budget t 0 partial s.chosen (walk_of budget left s.best)
  pub later : Later s t left left₁ s₁

-- and what trying its choice a leads to
pub record TriedTo (s : Search) (t a total left left₁ : ℕ) (s₁ : Search) : Type 0 where
  pub walk : (p : Sought) (budget : ℕ) → Trying p s.table.now s.sums t a total s.chosen → left_of left s.best ≤ budget + 1
      → walk_of budget left₁ s₁.best ≡ try_of p budget t total s.chosen a (walk_of budget left s.best)
  pub later : Later s t left left₁ s₁
