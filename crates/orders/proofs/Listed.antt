-- A shape whose pairs stand in a sorted list: its first trains ascend, and it is a shape like any other.
use mathlib.Core.Path.{◌≡◌}
use mathlib.Core.List.{List}
use Prim.Native.Nat.{ℕ, zero, suc, ◌+◌, ◌-◌, ◌<◌, ◌≤◌}
use native.Mathlib.Omega.{arith}
use Rattle.theory.specs.Lists.{nth}
use Rattle.theory.proofs.Order.{order_below, order_apart}
use Rattle.tables.specs.Plans.{Shape}
use Rattle.tables.proofs.Plans.{Shaped}
use Rattle.orders.specs.Listed.{renumbered, Sorted}

module _ (s : Shape) {l : List ℕ} (u : Sorted s.first s.pairs s.pairs l) where
  -- its first trains ascend, which the rows of sums ask
  listed_up : (k d : ℕ) → k + d < s.pairs → s.first (nth l k) ≤ s.first (nth l (k + d))
  listed_up k zero h = let e : k + 0 ≡ k = omega arith in rw e (omega arith)
  listed_up k (suc d) h =
      let e : k + suc d ≡ (k + d) + 1 = omega arith in
      rw e (omega (arith, listed_up k d (omega arith), u.ascends (k + d) (omega arith)))

  pub listed_ascends : (k j : ℕ) → k ≤ j → j < s.pairs → s.first (nth l k) ≤ s.first (nth l j)
  listed_ascends k j h q = let e : k + (j - k) ≡ j = omega arith in rw e at (listed_up k (j - k) (omega arith))

  pub listed_shaped : Shaped s → Shaped (renumbered (nth l) s)
  listed_shaped o =
      record {
        filled = o.filled;
        ascends = λ k h. o.ascends (nth l k) (order_below u.once k h);
        inside = λ k h. o.inside (nth l k) (order_below u.once k h);
        apart = λ k j h q e f. order_apart u.once k j h q (o.apart (nth l k) (nth l j) (order_below u.once k h) (order_below u.once j q) e f);
      }
