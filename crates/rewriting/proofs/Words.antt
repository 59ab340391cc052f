-- Sums of signed numbers of 64 bits, and how far from 0 they are.
use mathlib.Core.Path.{◌≡◌}
use mathlib.Core.Bool.{Bool, true, false, cond}
use Prim.Native.Nat.{ℕ, zero, suc, ◌+◌, ◌-◌, ◌<◌, ◌≤◌, ◌^◌}
use native.Mathlib.Omega.{arith}
use borrow.Author.Rules.{sfits_of}
use lib.Dec.{ltb}
use lib.IntN.{ℤ, pos, negsuc, neg_ℤ, sub_ℕ, ◌+ℤ◌}
use lib.Signed.{mag}
use mir.Facts.{to_z-of_z}
use mir.Syntax.{w64}
use mir.Val.{to_z, of_z}

mag_sub : (a b : ℕ) → mag (sub_ℕ a b) ≤ a + b
mag_sub a b = go (ltb a b)
  where
    go : (t : Bool) → mag (cond t (negsuc (b - suc a)) (pos (a - b))) ≤ a + b
    go true = omega arith
    go false = omega arith

pub mag_plus : (x y : ℤ) → mag (x +ℤ y) ≤ mag x + mag y + 1
mag_plus (pos a) (pos b) = omega arith
mag_plus (pos a) (negsuc b) = omega (arith, mag_sub a (suc b))
mag_plus (negsuc a) (pos b) = omega (arith, mag_sub b (suc a))
mag_plus (negsuc a) (negsuc b) = omega arith

pub mag_neg : (z : ℤ) → mag (neg_ℤ z) ≤ mag z + 1
mag_neg (pos zero) = omega arith
mag_neg (pos (suc n)) = omega arith
mag_neg (negsuc n) = omega arith

-- a number that fits is read back as it was stored
pub back : (z : ℤ) → mag z < 2 ^ 63 → to_z w64 (of_z w64 z) ≡ z
back z h = to_z-of_z {w = w64} (sfits_of h)
