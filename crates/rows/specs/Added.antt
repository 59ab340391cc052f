-- What the choices of a train come to so far.
use Rattle.std.specs.Prelude.{cond, ℕ, ◌+◌, eqb}
use Rattle.theory.specs.Sum.{sum}
use Rattle.tables.specs.Plans.{Shape, Costs}

module _ (s : Shape) (c : Costs) where
  -- what pair k adds to choice a of train j, with the choices x of the trains before: its cost where j is its second train
  abbrev pub row_added : (ℕ → ℕ) → ℕ → ℕ → ℕ → ℕ
  row_added x j a k = cond (eqb (s.second k) j) (c.pair k (x (s.first k)) a) 0

  -- what choice a of train j comes to over the pairs below k: its own cost, and what they add
  abbrev pub sum_below : (ℕ → ℕ) → ℕ → ℕ → ℕ → ℕ
  sum_below x j a k = c.choice j a + sum k (row_added x j a)
