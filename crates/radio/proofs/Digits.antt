-- Another first byte before what stands behind the one that is there: the line keeps its length and all behind it, and with its own first byte it is the line.
use mathlib.Core.Path.{◌≡◌, refl, ap}
use mathlib.Core.Bool.{true}
use mathlib.Core.List.{List, [], ◌∷◌}
use Prim.Native.Nat.{ℕ, zero, suc, ◌*◌, ◌%◌, ◌<◌, ◌≤◌}
use native.Mathlib.Omega.{arith}
use lib.ListN.{length, take, drop, length-drop}
use lib.Seq.{take-nil}
use Rattle.frames.specs.Fields.{field_digits}
use Rattle.frames.specs.Frames.{all_digits, framed}
use Rattle.frames.proofs.Bytes.{framed_whole}
use Rattle.frames.proofs.RoundTrip.{digits-length, digits-digits}
use Rattle.frames.proofs.There.{field_there}
use Rattle.frames.proofs.Parts.{digits_drop}
use Rattle.lines.specs.Layout.{kind_width, kind_of}
use Rattle.lines.proofs.Records.{first_byte, behind_first}
use Rattle.radio.specs.Forms.{with_kind}

module _ (l : List ℕ) (f : framed l ≡ true) where
  pub framed_first : with_kind (kind_of l) l ≡ l
  framed_first = field_there (framed_whole l f) 0 kind_width (omega (arith, (framed_whole l f).some))

  -- it has a first byte, and no half one
  pub framed_some : 2 * kind_width ≤ length l
  framed_some = omega (arith, (framed_whole l f).even, (framed_whole l f).some)

  pub framed_even : length l % 2 ≡ 0
  framed_even = omega (arith, (framed_whole l f).even)

module _ (kind : ℕ) (l : List ℕ) where
  pub with_kind_length : 2 * kind_width ≤ length l → length (with_kind kind l) ≡ length l
  with_kind_length h = omega (arith, digits-length kind_width kind (drop (2 * kind_width) l), length-drop (2 * kind_width) l)

  pub with_kind_of : kind < 256 → kind_of (with_kind kind l) ≡ kind
  with_kind_of h = first_byte kind (drop (2 * kind_width) l) h

  -- the last one stays
  pub with_kind_again : (other : ℕ) → with_kind other (with_kind kind l) ≡ with_kind other l
  with_kind_again other = ap (field_digits kind_width other) (behind_first kind (drop (2 * kind_width) l))

  pub with_kind_digits : all_digits l ≡ true → all_digits (with_kind kind l) ≡ true
  with_kind_digits e = digits-digits kind_width kind (drop (2 * kind_width) l) (digits_drop l e (2 * kind_width))

-- a front that holds the first byte
pub with_kind_front : (kind : ℕ) (l : List ℕ) (n : ℕ) → 2 * kind_width ≤ n → take n (with_kind kind l) ≡ with_kind kind (take n l)
unfolding field_digits
with_kind_front kind l zero h = absurd (omega arith)
with_kind_front kind l (suc zero) h = absurd (omega arith)
with_kind_front kind [] (suc (suc n)) h = rw (take-nil {A = ℕ} n)
with_kind_front kind (c ∷ []) (suc (suc n)) h = rw (take-nil {A = ℕ} n)
with_kind_front kind (c ∷ d ∷ l) (suc (suc n)) h = refl

-- and what lies behind such a front
pub with_kind_behind : (kind : ℕ) (l : List ℕ) (n : ℕ) → 2 * kind_width ≤ n → 2 * kind_width ≤ length l → drop n (with_kind kind l) ≡ drop n l
unfolding field_digits
with_kind_behind kind l zero h q = absurd (omega arith)
with_kind_behind kind l (suc zero) h q = absurd (omega arith)
with_kind_behind kind [] (suc (suc n)) h q = absurd (omega arith)
with_kind_behind kind (c ∷ []) (suc (suc n)) h q = absurd (omega arith)
with_kind_behind kind (c ∷ d ∷ l) (suc (suc n)) h q = refl
