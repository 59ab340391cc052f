-- Laws of the sum of all bytes: it goes over the two parts of a line, so that a byte behind a line adds its number.
use mathlib.Core.Path.{◌≡◌, refl, sym, ap₂, ◌∙◌}
use mathlib.Core.List.{List, [], ◌++◌}
use Prim.Native.Nat.{ℕ, ◌+◌, ◌*◌, ◌%◌, ◌<◌}
use native.Mathlib.Omega.{arith}
use lib.ListN.{length, length-append, get_or-append}
use lib.Seq.{get_or-append-add}
use Rattle.theory.specs.Sum.{sum}
use Rattle.theory.proofs.Sum.{sum_cong, sum_split}
use Rattle.frames.specs.ByteSum.{byte_sum}
use Rattle.frames.specs.Digits.{byte_at, bytes}
use Rattle.frames.specs.Fields.{field, field_digits}
use Rattle.frames.proofs.RoundTrip.{digits-length, field_here}

pub byte_sum_below : (l : List ℕ) → byte_sum l < 256
unfolding byte_sum
byte_sum_below l = omega arith

pub byte_sum_empty : byte_sum [] ≡ 0
unfolding byte_sum sum
byte_sum_empty = refl

-- ---- a line in two parts, the first of whole bytes

-- two sums that are carried round are the whole sum, carried round
carried_round : (a b : ℕ) → (a % 256 + b % 256) % 256 ≡ (a + b) % 256
carried_round a b = omega arith

module _ (p l : List ℕ) (h : length p % 2 ≡ 0) where
  -- a byte of the first part
  byte_before : (i : ℕ) → i < bytes p → byte_at (p ++ l) i ≡ byte_at p i
  unfolding byte_at
  byte_before i q = rw (get_or-append p l 0 (2 * i) (omega arith), get_or-append p l 0 (2 * i + 1) (omega arith))

  -- a byte of the second part
  byte_behind : (i : ℕ) → byte_at (p ++ l) (bytes p + i) ≡ byte_at l i
  unfolding byte_at
  byte_behind i =
      let e : 2 * (bytes p + i) ≡ length p + 2 * i = omega arith in
      let f : 2 * (bytes p + i) + 1 ≡ length p + (2 * i + 1) = omega arith in
      rw (f, e, get_or-append-add p l (2 * i) 0, get_or-append-add p l (2 * i + 1) 0)

  -- the sum of the whole
  pub byte_sum_append : byte_sum (p ++ l) ≡ (byte_sum p + byte_sum l) % 256
  unfolding byte_sum
  byte_sum_append =
      let n : bytes (p ++ l) ≡ bytes p + bytes l = omega (arith, length-append p l) in
      let s : sum (bytes p + bytes l) (byte_at (p ++ l)) ≡ sum (bytes p) (byte_at p) + sum (bytes l) (byte_at l) =
      sum_split (bytes p) (bytes l) (byte_at (p ++ l))
      ∙ ap₂ (λ (x y : ℕ). x + y) (sum_cong (bytes p) (byte_at (p ++ l)) (byte_at p) byte_before) (sum_cong (bytes l) (λ i. byte_at (p ++ l) (bytes p + i)) (byte_at l) (λ i q. byte_behind i)) in
      rw (n, s) (sym (carried_round (sum (bytes p) (byte_at p)) (sum (bytes l) (byte_at l))))

-- ---- one byte

-- a byte that is written in front reads back
pub byte_here : (v : ℕ) (rest : List ℕ) → v < 256 → byte_at (field_digits 1 v rest) 0 ≡ v
unfolding field
byte_here v rest h = omega (arith, field_here 1 v rest h)

pub byte_sum_byte : (v : ℕ) → v < 256 → byte_sum (field_digits 1 v []) ≡ v
unfolding byte_sum sum
byte_sum_byte v h =
    let n : bytes (field_digits 1 v []) ≡ 1 = omega (arith, digits-length 1 v []) in
    rw n (omega (arith, byte_here v [] h))
