-- The digits of a line are the digits of its numbers: a digit character is the digit of its value, so a field written again, before what stands behind it, is the line from that field on.
use mathlib.Core.Path.{◌≡◌}
use mathlib.Core.List.{List}
use mathlib.Core.Logic.{◌⊎◌, inl, inr, dite}
use Prim.Native.Nat.{ℕ, zero, suc, ◌+◌, ◌*◌, ◌-◌, ◌/◌, ◌%◌, ◌<◌, ◌≤◌}
use native.Mathlib.Decide.{dec_lt}
use native.Mathlib.Nat.{add-zero, mul-zero, mul-suc}
use native.Mathlib.Omega.{arith}
use lib.ListN.{get_or, drop}
use lib.Seq.{drop-cons}
use borrow.Author.Tests.{le-leb, lt-leb}
use Rattle.frames.specs.Digits.{no_digit, digit, digit_of, byte_at, bytes, byte_digits}
use Rattle.frames.specs.Fields.{field, field_digits}
use Rattle.frames.proofs.Ascii.{digit_low, digit_high, digit_none}
use Rattle.frames.proofs.Bytes.{Whole, byte_below}
use Rattle.frames.specs.Runs.{run_digits}

-- a digit character is the digit of its value
pub digit_there : (c : ℕ) → digit c < no_digit → digit_of (digit c) ≡ c
unfolding digit_of
digit_there c h =
    dite (dec_lt c 48) (λ (q : c < 48). none (inl q))
    (λ n. dite (dec_lt c 58) (λ (q : c < 58). rw (digit_low c (omega (arith, n)) (omega arith), le-leb (c - 48) 9 (omega arith)) (omega (arith, n)))
    (λ m. dite (dec_lt c 65) (λ (q : c < 65). none (inr (inl (omega (arith, m), q))))
    (λ k. dite (dec_lt c 71) (λ (q : c < 71). rw (digit_high c (omega (arith, k)) (omega arith), lt-leb (c - 55) 9 (omega (arith, k))) (omega (arith, k)))
    (λ q. none (inr (inr (omega (arith, q))))))))
  where
    none : {A : Type 0} → (c < 48) ⊎ ((57 < c) × (c < 65)) ⊎ (70 < c) → A
    none z = absurd (omega (arith, digit_none c z))

-- a byte's two digits
module _ {l : List ℕ} (h : Whole l) where
  byte_there : (i : ℕ) → i < bytes l → byte_digits (byte_at l i) (drop (2 * (i + 1)) l) ≡ drop (2 * i) l
  unfolding byte_at
  byte_there i q =
      let c = get_or l (2 * i) 0 in
      let d = get_or l (2 * i + 1) 0 in
      let hc : digit c < no_digit = h.digits (2 * i) (omega (arith, h.even)) in
      let hd : digit d < no_digit = h.digits (2 * i + 1) (omega (arith, h.even)) in
      let high : (16 * digit c + digit d) / 16 ≡ digit c = omega arith in
      let low : (16 * digit c + digit d) % 16 ≡ digit d = omega arith in
      let e : 2 * i + 1 ≡ suc (2 * i) = omega arith in
      let f : 2 * (i + 1) ≡ suc (suc (2 * i)) = omega arith in
      rw (high, low, digit_there c hc, digit_there d hd, drop-cons l (2 * i) 0 (omega (arith, h.even)), drop-cons l (suc (2 * i)) 0 (omega (arith, h.even)), f, e)

  -- a field, written before what stands behind it
  pub field_there : (at w : ℕ) → at + w ≤ bytes l → field_digits w (field l at w) (drop (2 * (at + w)) l) ≡ drop (2 * at) l
  unfolding field field_digits
  field_there at zero q = rw add-zero
  field_there at (suc w) q =
      let b : byte_at l (at + w) < 256 = byte_below h (at + w) (omega arith) in
      let high : (256 * field l at w + byte_at l (at + w)) / 256 ≡ field l at w = omega arith in
      let low : (256 * field l at w + byte_at l (at + w)) % 256 ≡ byte_at l (at + w) = omega arith in
      let e : at + suc w ≡ at + w + 1 = omega arith in
      rw (high, low, e, byte_there (at + w) (omega arith)) (field_there at w (omega arith))

  -- a run of fields
  pub run_there : (at w n : ℕ) → at + w * n ≤ bytes l → run_digits w n (λ k. field l (at + w * k) w) (drop (2 * (at + w * n)) l) ≡ drop (2 * at) l
  unfolding run_digits
  run_there at w zero q = rw (mul-zero, add-zero)
  run_there at w (suc n) q =
      let e : at + w * suc n ≡ at + w * n + w = omega (arith, mul-suc w n) in
      rw (e, field_there (at + w * n) w (omega arith)) (run_there at w n (omega (arith, mul-suc w n)))
