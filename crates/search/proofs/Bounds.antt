-- When a walk may end at a bound in points: in points, where the bound exceeds no plan's cost; in parts, where besides every plan's total is a whole number of points. Rounding up never falls.
use mathlib.Core.Path.{◌≡◌, ap}
use Prim.Native.Nat.{ℕ, ◌*◌, ◌<◌, ◌≤◌}
use native.Mathlib.Nat.{le_trans, mul-le-mul_left}
use native.Mathlib.Omega.{arith}
use lib.Dec.{eqb}
use borrow.Author.Tests.{eqb-true}
use Rattle.units.specs.Units.{rounded_up}
use Rattle.units.proofs.Bound.{rounded_covers, rounded_least}
use Rattle.tables.specs.Plans.{Shape, Costs, IsPlan, total}
use Rattle.search.specs.Stops.{MeetsLeast, the_total}

module _ (s : Shape) (c : Costs) (parts : ℕ) (h : 0 < parts) (bound : ℕ) where
  -- in points
  pub points_meet : ((x : ℕ → ℕ) → IsPlan s x → bound ≤ rounded_up parts (total s c x)) → MeetsLeast s c (rounded_up parts) (λ m. eqb (rounded_up parts m) bound)
  points_meet low =
      record {
        rises = λ m n q. rounded_least parts h m (rounded_up parts n) (le_trans q (rounded_covers parts h n));
        least = λ x y is at e. omega (arith, eqb-true (rounded_up parts (total s c x)) bound e, low y at);
      }

  -- in parts
  pub parts_meet : (cost : (ℕ → ℕ) → ℕ) → ((x : ℕ → ℕ) → IsPlan s x → (total s c x ≡ parts * cost x) × (bound ≤ cost x)) → MeetsLeast s c the_total (λ m. eqb (rounded_up parts m) bound)
  parts_meet cost low =
      record {
        rises = λ m n q. q;
        least = λ x y is at e.
            omega (
              arith,
              rounded_covers parts h (total s c x),
              ap (λ (v : ℕ). parts * v) (eqb-true (rounded_up parts (total s c x)) bound e),
              mul-le-mul_left parts (low y at).1,
              (low y at).0,
            );
      }
