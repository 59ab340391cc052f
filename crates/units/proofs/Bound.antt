-- What rounding up to points is: the least number of points that covers the parts.
use mathlib.Core.Path.{◌≡◌, refl, sym}
use mathlib.Core.Bool.{Bool, true, false, cond}
use Rattle.std.specs.Prelude.{Some, None}
use Prim.Native.Nat.{ℕ, suc, ◌+◌, ◌-◌, ◌*◌, ◌/◌, ◌<◌, ◌≤◌}
use native.Mathlib.Nat.{mul_comm, suc-mul, div-lt_iff_lt-mul, lt-div-mul-add, le_antisymm, le_of_mul-le-mul_left, le-mul_of_pos_right}
use native.Mathlib.Omega.{arith}
use lib.Dec.{ltb}
use borrow.Author.Tests.{le-ltb, ltb-false}
use Rattle.units.specs.Units.{Sound, new_scale, scale_min, scale_max, rounded_up}

-- the constructor gives sound scales, of the number that it was given
pub new_scale_sound : (n s : ℕ) → new_scale n ≡ Some s → (s ≡ n) × Sound s
new_scale_sound n s e = go (ltb n scale_min) (ltb scale_max n) refl refl e
  where
    go : (t u : Bool) → ltb n scale_min ≡ t → ltb scale_max n ≡ u → cond t None (cond u None (Some n)) ≡ Some s → (s ≡ n) × Sound s
    go true u p q e = cc
    go false true p q e = cc
    go false false p q e =
        let h : n ≡ s = cc in
        (sym h, rw (← h) (record { low = ltb-false n scale_min p; high = ltb-false scale_max n q }))

-- and of every number within the limits
pub new_scale-within : (n : ℕ) → scale_min ≤ n → n ≤ scale_max → new_scale n ≡ Some n
new_scale-within n p q = rw (le-ltb n scale_min p, le-ltb scale_max n q)

module _ (s : ℕ) (h : 0 < s) where
  -- the bound is not below the parts
  pub rounded_covers : (c : ℕ) → c ≤ s * rounded_up s c
  unfolding rounded_up
  rounded_covers c = omega (arith, lt-div-mul-add {a = c + (s - 1)} h, mul_comm s ((c + (s - 1)) / s))

  -- and no number of points below it covers them: where a cost in parts is not below c0, the bound does not exceed the cost
  pub rounded_least : (c p : ℕ) → c ≤ s * p → rounded_up s c ≤ p
  unfolding rounded_up
  rounded_least c p e =
      let q : (c + (s - 1)) / s < suc p = (div-lt_iff_lt-mul h).1 (omega (arith, mul_comm s p, suc-mul p s)) in
      omega arith

  -- the bound in points is not above the constant in parts
  pub rounded_most : (c : ℕ) → rounded_up s c ≤ c
  rounded_most c = rounded_least c c (omega (arith, le-mul_of_pos_right c h, mul_comm s c))

  -- a whole number of points stays itself
  pub rounded_whole : (p : ℕ) → rounded_up s (s * p) ≡ p
  rounded_whole p =
      le_antisymm (rounded_least (s * p) p (omega arith)) (le_of_mul-le-mul_left (rounded_covers (s * p)) h)

-- document 01's own examples: 'with s = 2, 3 parts publish 2, 4 publish 2, 0 publishes 0'
pub examples : (rounded_up 2 3 ≡ 2) × ((rounded_up 2 4 ≡ 2) × (rounded_up 2 0 ≡ 0))
unfolding rounded_up
examples = (refl, (refl, refl))
