-- The least multiple of g that is not below p: it covers p, it is a multiple of g, and no multiple that covers p is below it. From the laws of rounding up.
use mathlib.Core.Path.{◌≡◌}
use mathlib.Core.Logic.{dite}
use Prim.Native.Nat.{ℕ, ◌+◌, ◌-◌, ◌*◌, ◌/◌, ◌<◌, ◌≤◌, ◌∣◌}
use native.Mathlib.Decide.{dec_lt}
use native.Mathlib.Nat.{mul-le-mul_left, mul-div-le, dvd-mul_right, dvd-sub, le_of_dvd, div-mul_cancel, mul_comm}
use native.Mathlib.Omega.{arith}
use Rattle.units.specs.Units.{rounded_up}
use Rattle.units.proofs.Bound.{rounded_covers, rounded_least}
use Rattle.bounds.specs.Steps.{rounded_to}

module _ (g : ℕ) (h : 0 < g) where
  pub rounded_to_covers : (p : ℕ) → p ≤ rounded_to g p
  unfolding rounded_to
  rounded_to_covers p = rounded_covers g h p

  pub rounded_to_multiple : (p : ℕ) → g ∣ rounded_to g p
  unfolding rounded_to
  rounded_to_multiple p = dvd-mul_right g (rounded_up g p)

  pub rounded_to_least : (p q : ℕ) → p ≤ g * q → rounded_to g p ≤ g * q
  unfolding rounded_to
  rounded_to_least p q e = mul-le-mul_left g (rounded_least g h p q e)

  -- the same, of a number that g divides
  pub rounded_to_most : (p t : ℕ) → g ∣ t → p ≤ t → rounded_to g p ≤ t
  rounded_to_most p t d e =
      let w : g * (t / g) ≡ t = omega (arith, div-mul_cancel g d, mul_comm g (t / g)) in
      rw w at (rounded_to_least p (t / g) (omega arith))

  -- it is less than a step above p
  pub rounded_to_near : (p : ℕ) → rounded_to g p < p + g
  unfolding rounded_to rounded_up
  rounded_to_near p = omega (arith, mul-div-le (p + (g - 1)) g)

  -- a multiple stays
  pub rounded_to_same : (p : ℕ) → g ∣ p → rounded_to g p ≡ p
  rounded_to_same p d = omega (arith, rounded_to_covers p, rounded_to_most p p d (omega arith))

  -- no other multiple is less than a step above p
  pub next_multiple : (p r : ℕ) → p ≤ r → r < p + g → g ∣ r → rounded_to g p ≡ r
  next_multiple p r low high d =
      let most = rounded_to_most p r d low in
      dite (dec_lt (rounded_to g p) r)
      (λ (l : rounded_to g p < r). absurd (omega (arith, rounded_to_covers p, le_of_dvd {n = r - rounded_to g p} (omega arith) (dvd-sub g d (rounded_to_multiple p)))))
      (λ n. omega arith)
