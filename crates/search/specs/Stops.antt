-- Document 02, change 6: when a test of totals may end a walk, and what a walk keeps that it ends.
use Rattle.std.specs.Prelude.{◌≡◌, Bool, true, false, List, ℕ, ◌≤◌, ℤ}
use Rattle.tables.specs.Block.{order}
use Rattle.tables.specs.Plans.{Shape, Costs, IsPlan, total}
use Rattle.search.specs.Walk.{Walk}
use Rattle.search.specs.Ordered.{searched_on_in}

-- no plan costs less than one whose total meets: `cost` says what a total costs (in points, say, rounded up), and never falls
pub record MeetsLeast (s : Shape) (c : Costs) (cost : ℕ → ℕ) (meets : ℕ → Bool) : Type 0 where
  pub rises : (m n : ℕ) → m ≤ n → cost m ≤ cost n
  pub least : (x y : ℕ → ℕ) → IsPlan s x → IsPlan s y → meets (total s c x) ≡ true → cost (total s c x) ≤ cost (total s c y)

-- the total itself
abbrev pub the_total : ℕ → ℕ
the_total m = m

-- 'ended searches that met the bound early count fewer tries, and some spent ones end', and nothing else changes: v, the walk with the rule, and u, the walk without it, know the same plan.
-- v counts no more tries, ends where u ends, and is u where no best met the bound
pub record Sooner (v u : Walk) : Type 0 where
  pub found : v.found ≡ u.found
  pub best : v.best ≡ u.best
  pub plan : v.plan ≡ u.plan
  pub tries : v.count ≤ u.count
  pub ends : u.spent ≡ false → v.spent ≡ false
  pub equal : v.met ≡ false → v ≡ u

-- the search of a block that no bound ends, as document 01 has it
unfoldable pub searched_on : List ℤ → ℕ → Walk
searched_on b budget = searched_on_in (order b) b budget
