-- A literal in the code is a signed number of 64 bits, and its distance from 0 is small.
use mathlib.Core.Path.{◌≡◌}
use Prim.Native.Nat.{◌<◌, ◌≤◌, ◌^◌}
use native.Mathlib.Omega.{arith}
use borrow.Author.Rules.{sfits_of}
use lib.IntN.{ℤ, pos, negsuc, nat_abs}
use lib.Signed.{mag}
use mir.Facts.{to_z-of_z}
use mir.Syntax.{w64}
use mir.Val.{to_z, of_z}
use Rattle.tables.specs.Block.{max_trains}

small : (z : ℤ) → nat_abs z ≤ max_trains → mag z < 2 ^ 63
small (pos n) h = omega arith
small (negsuc n) h = omega arith

pub word_is : (z : ℤ) → nat_abs z ≤ max_trains → to_z w64 (of_z w64 z) ≡ z
word_is z h = to_z-of_z {w = w64} (sfits_of (small z h))
