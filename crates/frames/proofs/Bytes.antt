-- Laws of digits and bytes.
use mathlib.Core.Path.{◌≡◌, refl, sym, ◌∙◌}
use mathlib.Core.Bool.{Bool, true, false, cond, ◌&&◌, not}
use mathlib.Core.List.{List}
use Prim.Native.Nat.{ℕ, ◌+◌, ◌*◌, ◌/◌, ◌%◌, ◌<◌, ◌≤◌}
use native.Mathlib.Omega.{arith}
use lib.Dec.{ltb, eqb}
use lib.ListN.{length, get_or}
use borrow.Author.Tests.{lt-ltb, ltb-true, ltb-false, ne_eqb, eqb-true, eqb-false, not-true}
use Rattle.theory.specs.Range.{all}
use Rattle.theory.proofs.Range.{both_true, bool_ext, all_true, pass_all}
use Rattle.frames.specs.Digits.{no_digit, digit, byte_at, bytes}
use Rattle.refusals.specs.declared.Refusal.TheVariants.{Characters, TooLong}
use Rattle.refusals.specs.Verdicts.{Fine, Declined}
use Rattle.frames.specs.Frames.{max_characters, is_digit, all_digits, framed, new_frame, Framed}
use Rattle.frames.proofs.Ascii.{digit_most}

-- a byte is at most 272, whatever the characters are
pub byte_most : (l : List ℕ) (i : ℕ) → byte_at l i ≤ 272
unfolding byte_at
byte_most l i = omega (arith, digit_most (get_or l (2 * i) 0), digit_most (get_or l (2 * i + 1) 0))

-- a value is below `no_digit` where the character is a digit
pub digit-below : (c : ℕ) → ltb (digit c) no_digit ≡ is_digit c
digit-below c =
    bool_ext (ltb (digit c) no_digit) (is_digit c)
    (λ e. let h = ltb-true (digit c) no_digit e in rw (ne_eqb (digit c) no_digit (omega arith)))
    (λ e. let h = eqb-false (digit c) no_digit (not-true (eqb (digit c) no_digit) e) in lt-ltb (digit c) no_digit (omega (arith, digit_most c)))

-- ---- lines of digits

pub all_digits_lem : (l : List ℕ) → all_digits l ≡ all (length l) (λ k. is_digit (get_or l k 0))
unfolding all_digits
all_digits_lem l = pass_all (λ i c. is_digit c) 0 l

-- what a framed line is
pub record Whole (l : List ℕ) : Type 0 where
  pub even : length l ≡ 2 * bytes l
  pub some : 1 ≤ bytes l
  pub digits : (i : ℕ) → i < length l → digit (get_or l i 0) < no_digit

pub framed_whole : (l : List ℕ) → framed l ≡ true → Whole l
unfolding framed
framed_whole l e =
    let f = both_true (not (eqb (length l) 0)) (eqb (length l % 2) 0 && all_digits l) e in
    let g = both_true (eqb (length l % 2) 0) (all_digits l) f.1 in
    let even : length l % 2 ≡ 0 = eqb-true (length l % 2) 0 g.0 in
    let some : length l ≡ 0 → ⊥ = eqb-false (length l) 0 (not-true (eqb (length l) 0) f.0) in
    record {
      even = omega arith;
      some = at_least_one (length l) some even;
      digits = λ i h. ltb-true (digit (get_or l i 0)) no_digit (digit-below (get_or l i 0) ∙ all_true (λ k. is_digit (get_or l k 0)) (length l) (sym (all_digits_lem l) ∙ g.1) i h);
    }
  where
    at_least_one : (n : ℕ) → (n ≡ 0 → ⊥) → n % 2 ≡ 0 → 1 ≤ n / 2
    at_least_one n z e = omega arith

pub byte_below : {l : List ℕ} → Whole l → (i : ℕ) → i < bytes l → byte_at l i < 256
unfolding byte_at
byte_below {l} w i h = omega (arith, w.digits (2 * i) (omega (arith, w.even)), w.digits (2 * i + 1) (omega (arith, w.even)))

-- ---- what the constructor of a frame answers

pub new_framed : (l : List ℕ) → new_frame l ≡ Fine → Framed l (bytes l)
new_framed l e = go (ltb max_characters (length l)) (framed l) refl refl e
  where
    go : (t u : Bool) → ltb max_characters (length l) ≡ t → framed l ≡ u → cond t (Declined TooLong) (cond u Fine (Declined Characters)) ≡ Fine → Framed l (bytes l)
    go true u p q e = cc
    go false false p q e = cc
    go false true p q e = record { digits = q; whole = refl; short = ltb-false max_characters (length l) p }
