-- The sixteen listed characters beside the ASCII table: which of all 256 bytes are digits, and with which values.
use mathlib.Core.Path.{◌≡◌, refl, ◌∙◌}
use mathlib.Core.Bool.{Bool, true, false, cond, ◌&&◌}
use mathlib.Core.List.{List, [], ◌∷◌}
use mathlib.Core.Logic.{◌⊎◌, inl, inr}
use Prim.Native.Nat.{ℕ, suc, ◌+◌, ◌-◌, ◌<◌, ◌≤◌}
use native.Mathlib.Omega.{arith}
use lib.Dec.{leb, ltb, eqb}
use lib.ListN.{length}
use borrow.Author.Tests.{ltb-true, le-leb, lt-leb, ne_eqb, eqb-true}
use Rattle.theory.specs.Range.{all}
use Rattle.theory.specs.Lists.{nth}
use Rattle.theory.proofs.Range.{both_true, all_true}
use Rattle.frames.specs.Digits.{digits, place_of, no_digit, digit}
use Rattle.frames.specs.Frames.{is_digit}

-- ---- the table

-- ASCII: 0 to 9 are the numbers 48 to 57, A to F the numbers 65 to 70
unfoldable pub ascii_value : ℕ → ℕ
ascii_value c = cond (leb 48 c && leb c 57) (c - 48) (cond (leb 65 c && leb c 70) (c - 55) no_digit)

-- 'shown for all 256 byte values': computed
pub bytes_right : all 256 (λ c. eqb (digit c) (ascii_value c)) ≡ true
unfolding all digit ascii_value
bytes_right = refl

pub digit_ascii : (c : ℕ) → c < 256 → digit c ≡ ascii_value c
digit_ascii c h = eqb-true (digit c) (ascii_value c) (all_true (λ k. eqb (digit k) (ascii_value k)) 256 bytes_right c h)

-- 'every other byte has none'
pub not_listed : (c : ℕ) → c < 256 → ascii_value c ≡ no_digit → is_digit c ≡ false
not_listed c h e = rw (digit_ascii c h, e)

-- ---- the list: each of the sixteen has its place as its value, and is a byte

listed_right : all 16 (λ v. eqb (digit (nth digits v)) v && ltb (nth digits v) 256) ≡ true
unfolding all digit
listed_right = refl

module _ (v : ℕ) (h : v < 16) where
  right : eqb (digit (nth digits v)) v && ltb (nth digits v) 256 ≡ true
  right = all_true (λ k. eqb (digit (nth digits k)) k && ltb (nth digits k) 256) 16 listed_right v h

  pub listed : digit (nth digits v) ≡ v
  listed = eqb-true (digit (nth digits v)) v (both_true (eqb (digit (nth digits v)) v) (ltb (nth digits v) 256) right).0

  listed_byte : nth digits v < 256
  listed_byte = ltb-true (nth digits v) 256 (both_true (eqb (digit (nth digits v)) v) (ltb (nth digits v) 256) right).1

-- ---- characters that are none of the sixteen

place_none : (c : ℕ) (l : List ℕ) → ((v : ℕ) → v < length l → c ≡ nth l v → ⊥) → place_of c l ≡ length l
unfolding place_of
place_none c [] h = refl
place_none c (d ∷ l) h = rw (ne_eqb c d (h 0 (omega arith)), place_none c l (λ v q. h (suc v) (omega arith))) (omega arith)

pub other_digit : (c : ℕ) → ((v : ℕ) → v < 16 → c ≡ nth digits v → ⊥) → digit c ≡ no_digit
unfolding digit
other_digit c h = place_none c digits h

-- ---- the two ranges of characters that are digits, and the others

pub digit_low : (c : ℕ) → 48 ≤ c → c ≤ 57 → digit c ≡ c - 48
unfolding ascii_value
digit_low c h q = rw (digit_ascii c (omega arith), le-leb 48 c h, le-leb c 57 q)

pub digit_high : (c : ℕ) → 65 ≤ c → c ≤ 70 → digit c ≡ c - 55
unfolding ascii_value
digit_high c h q = rw (digit_ascii c (omega arith), le-leb 48 c (omega arith), lt-leb c 57 (omega arith), le-leb 65 c h, le-leb c 70 q)

ascii_none : (c : ℕ) → (c < 48) ⊎ ((57 < c) × (c < 65)) ⊎ (70 < c) → ascii_value c ≡ no_digit
unfolding ascii_value
ascii_none c (inl h) = rw (lt-leb 48 c h, lt-leb 65 c (omega arith))
ascii_none c (inr (inl h)) = rw (le-leb 48 c (omega arith), lt-leb c 57 h.0, lt-leb 65 c h.1)
ascii_none c (inr (inr h)) = rw (le-leb 48 c (omega arith), lt-leb c 57 (omega arith), le-leb 65 c (omega arith), lt-leb c 70 h)

-- a listed character has a value in the table too
pub digit_none : (c : ℕ) → (c < 48) ⊎ ((57 < c) × (c < 65)) ⊎ (70 < c) → digit c ≡ no_digit
digit_none c h = other_digit c (λ v q e. let z : digit (nth digits v) ≡ no_digit = digit_ascii (nth digits v) (listed_byte v q) ∙ ascii_none (nth digits v) (rw e at h) in omega (arith, listed v q, z))

-- ---- a value is at most `no_digit`

place_most : (c : ℕ) (l : List ℕ) → place_of c l ≤ length l
unfolding place_of
place_most c [] = omega arith
place_most c (d ∷ l) = go (eqb c d) (place_most c l)
  where
    go : (t : Bool) → place_of c l ≤ length l → cond t 0 (1 + place_of c l) ≤ suc (length l)
    go true h = omega arith
    go false h = omega arith

pub digit_most : (c : ℕ) → digit c ≤ no_digit
unfolding digit
digit_most c = place_most c digits
