-- What is written, a reader reads back: the field at the place of written digits is the number.
use mathlib.Core.Path.{◌≡◌, refl, sym, ap₂, ◌∙◌}
use mathlib.Core.Bool.{true}
use mathlib.Core.List.{List, [], ◌∷◌, ◌++◌}
use mathlib.Core.Logic.{dite}
use Prim.Native.Nat.{ℕ, zero, suc, ◌+◌, ◌*◌, ◌/◌, ◌%◌, ◌<◌, ◌^◌}
use native.Mathlib.Nat.{add_assoc, add-zero}
use native.Mathlib.Decide.{dec_lt}
use native.Mathlib.Numerals.{add-one}
use native.Mathlib.Omega.{arith}
use lib.ListN.{length, get_or, drop}
use lib.Seq.{get_or-drop, drop_at}
use borrow.Author.Tests.{le-leb, lt-leb, ne_eqb}
use Rattle.theory.proofs.Range.{all_true, all_intro}
use Rattle.frames.specs.Digits.{no_digit, digit, digit_of, byte_at, byte_digits}
use Rattle.frames.specs.Fields.{field, field_digits}
use Rattle.frames.specs.Frames.{is_digit, all_digits}
use Rattle.frames.proofs.Ascii.{digit_low, digit_high}
use Rattle.frames.proofs.Bytes.{all_digits_lem}
use Rattle.frames.proofs.Widths.{power_more}

-- ---- digits

pub digit_back : (v : ℕ) → v < no_digit → digit (digit_of v) ≡ v
unfolding digit_of
digit_back v h =
    dite (dec_lt v 10)
    (λ (q : v < 10). rw (le-leb v 9 (omega arith), digit_low (v + 48) (omega arith) (omega arith)) (omega arith))
    (λ (q : v < 10 → ⊥). rw (lt-leb v 9 (omega (arith, q)), digit_high (v + 55) (omega (arith, q)) (omega arith)) (omega arith))

digit_is : (v : ℕ) → v < no_digit → is_digit (digit_of v) ≡ true
digit_is v h = rw (digit_back v h, ne_eqb v no_digit (λ e. omega arith))

-- ---- reading from a byte on

byte_drop : (l : List ℕ) (at i : ℕ) → byte_at l (at + i) ≡ byte_at (drop (2 * at) l) i
unfolding byte_at
byte_drop l at i =
    let e : 2 * (at + i) ≡ 2 * at + 2 * i = omega arith in
    let f : 2 * at + 2 * i + 1 ≡ 2 * at + (2 * i + 1) = omega arith in
    rw (e, f, get_or-drop (2 * at) l (2 * i) 0, get_or-drop (2 * at) l (2 * i + 1) 0)

pub field-drop : (l : List ℕ) (at k w : ℕ) → field l (at + k) w ≡ field (drop (2 * at) l) k w
unfolding field
field-drop l at k zero = refl
field-drop l at k (suc w) = ap₂ (λ (x y : ℕ). 256 * x + y) (field-drop l at k w) (rw add_assoc (byte_drop l at (k + w)))

-- ---- what is written

pub digits_append : (w v : ℕ) (p rest : List ℕ) → field_digits w v (p ++ rest) ≡ field_digits w v p ++ rest
unfolding field_digits
digits_append zero v p rest = refl
digits_append (suc w) v p rest = digits_append w (v / 256) (byte_digits (v % 256) p) rest

pub digits-length : (w v : ℕ) (rest : List ℕ) → length (field_digits w v rest) ≡ 2 * w + length rest
unfolding field_digits
digits-length zero v rest = omega arith
digits-length (suc w) v rest = omega (arith, digits-length w (v / 256) (byte_digits (v % 256) rest))

digits_cons : (c : ℕ) (l : List ℕ) → is_digit c ≡ true → all_digits l ≡ true → all_digits (c ∷ l) ≡ true
digits_cons c l e f = all_digits_lem (c ∷ l) ∙ all_intro (λ k. is_digit (get_or (c ∷ l) k 0)) (suc (length l)) each
  where
    each : (k : ℕ) → k < suc (length l) → is_digit (get_or (c ∷ l) k 0) ≡ true
    each zero h = e
    each (suc k) h = all_true (λ j. is_digit (get_or l j 0)) (length l) (sym (all_digits_lem l) ∙ f) k (omega arith)

-- its characters are digits
pub digits-digits : (w v : ℕ) (rest : List ℕ) → all_digits rest ≡ true → all_digits (field_digits w v rest) ≡ true
unfolding field_digits
digits-digits zero v rest e = e
digits-digits (suc w) v rest e = digits-digits w (v / 256) (byte_digits (v % 256) rest) (two (v % 256) (omega arith))
  where
    two : (x : ℕ) → x < 256 → all_digits (byte_digits x rest) ≡ true
    two x h = digits_cons (digit_of (x / 16)) (digit_of (x % 16) ∷ rest) (digit_is (x / 16) (omega arith)) (digits_cons (digit_of (x % 16)) rest (digit_is (x % 16) (omega arith)) e)

byte_back : (x : ℕ) (rest : List ℕ) → x < 256 → byte_at (byte_digits x rest) 0 ≡ x
unfolding byte_at
byte_back x rest h = rw (digit_back (x / 16) (omega arith), digit_back (x % 16) (omega arith)) (omega arith)

-- the field at the place of written digits is the number
pub field_here : (w v : ℕ) (rest : List ℕ) → v < 256 ^ w → field (field_digits w v rest) 0 w ≡ v
unfolding field_digits field
field_here zero v rest h = omega arith
field_here (suc w) v rest h =
    let r = byte_digits (v % 256) rest in
    let p = field_digits w (v / 256) [] in
    let z : 0 + w ≡ w + 0 = omega arith in
    let behind : drop (2 * w) (p ++ r) ≡ r = drop_at p r (2 * w) (digits-length w (v / 256) [] ∙ add-zero (2 * w)) in
    let last : byte_at (field_digits w (v / 256) r) (0 + w) ≡ v % 256 =
    rw (z, digits_append w (v / 256) [] r, byte_drop (p ++ r) w 0, behind) (byte_back (v % 256) rest (omega arith)) in
    omega (arith, field_here w (v / 256) r (omega (arith, power_more w, add-one w)), last)
