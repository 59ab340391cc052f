-- Laws of fields: how large the number of so many bytes is.
use mathlib.Core.Path.{◌≡◌, ap}
use mathlib.Core.List.{List}
use Prim.Native.Nat.{ℕ, zero, suc, ◌+◌, ◌*◌, ◌-◌, ◌<◌, ◌≤◌, ◌^◌}
use native.Mathlib.Nat.{pow-le-pow_right}
use mathlib.Core.Logic.{dite}
use native.Mathlib.Decide.{dec_lt}
use native.Mathlib.Numerals.{add-one}
use native.Mathlib.Omega.{arith}
use lib.IntN.{pos, negsuc, neg_ℤ}
use lib.Signed.{mag}
use mir.Facts.{to_z-of_z}
use mir.Syntax.{w64}
use mir.Val.{to_z, of_z}
use borrow.Author.Rules.{sfits_of}
use borrow.Author.Tests.{lt-ltb, le-ltb}
use Rattle.frames.specs.Digits.{bytes}
use Rattle.frames.specs.Fields.{max_width, field, signed}
use Rattle.frames.proofs.Bytes.{byte_most, Whole, byte_below}

-- ---- how many numbers there are of so many bytes

pub power_more : (w : ℕ) → 256 ^ (w + 1) ≡ 256 * 256 ^ w
power_more w = rw add-one (omega arith)

-- whatever the characters are, a field fits 64 bits
field_most : (l : List ℕ) (at w : ℕ) → 255 * field l at w + 272 ≤ 272 * 256 ^ w
unfolding field
field_most l at zero = omega arith
field_most l at (suc w) = omega (arith, field_most l at w, byte_most l (at + w), power_more w, add-one w)

pub power_mono : {v w : ℕ} → v ≤ w → 256 ^ v ≤ 256 ^ w
power_mono h = pow-le-pow_right (omega arith) h

pub field_fits : (l : List ℕ) (at w : ℕ) → w ≤ max_width → field l at w < 2 ^ 49
field_fits l at w h = omega (arith, field_most l at w, power_mono h)

-- the number of w bytes of digits
pub field_below : {l : List ℕ} → Whole l → (at w : ℕ) → at + w ≤ bytes l → field l at w < 256 ^ w
unfolding field
field_below {l} h at zero q = omega arith
field_below {l} h at (suc w) q = omega (arith, field_below h at w (omega arith), byte_below h (at + w) (omega arith), power_more w, add-one w)

pub power_fits : (w : ℕ) → w ≤ max_width → 256 ^ w ≤ 2 ^ 48
power_fits w h = omega (arith, power_mono h)

-- ---- two's complement

pub signed_low : (w v : ℕ) → 2 * v < 256 ^ w → signed w v ≡ pos v
unfolding signed
signed_low w v h = rw (lt-ltb (2 * v) (256 ^ w) h)

neg_of : (n : ℕ) → 1 ≤ n → negsuc (n - 1) ≡ neg_ℤ (pos n)
neg_of zero h = absurd (omega arith)
neg_of (suc n) h = ap negsuc (omega arith)

pub signed_high : (w v : ℕ) → 256 ^ w ≤ 2 * v → v < 256 ^ w → signed w v ≡ neg_ℤ (pos (256 ^ w - v))
unfolding signed
signed_high w v h q = rw (le-ltb (2 * v) (256 ^ w) h) (neg_of (256 ^ w - v) (omega arith))

neg_mag : (n : ℕ) → mag (neg_ℤ (pos n)) ≤ n
neg_mag zero = omega arith
neg_mag (suc n) = omega arith

-- a number of at most 6 bytes fits a signed 64-bit place
signed_mag : (w v : ℕ) → v < 256 ^ w → mag (signed w v) ≤ 256 ^ w
signed_mag w v h =
    dite (dec_lt (2 * v) (256 ^ w))
    (λ (q : 2 * v < 256 ^ w). rw (signed_low w v q) (omega arith))
    (λ (q : 2 * v < 256 ^ w → ⊥). rw (signed_high w v (omega (arith, q)) h) (omega (arith, neg_mag (256 ^ w - v))))

pub signed_back : (w v : ℕ) → w ≤ max_width → v < 256 ^ w → to_z w64 (of_z w64 (signed w v)) ≡ signed w v
signed_back w v q h = to_z-of_z {w = w64} (sfits_of (omega (arith, signed_mag w v h, power_fits w q)))
