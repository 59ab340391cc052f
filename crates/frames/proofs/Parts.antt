-- Characters in two parts: they are digits where those of both parts are, and an even number of digits, at least 2, is a frame.
use mathlib.Core.Path.{◌≡◌, sym, ap, ap₂, ◌∙◌}
use mathlib.Core.Bool.{Bool, true, ◌&&◌, not}
use mathlib.Core.List.{List, ◌++◌}
use Prim.Native.Nat.{ℕ, ◌+◌, ◌%◌, ◌<◌}
use native.Mathlib.Omega.{arith}
use lib.Dec.{eqb}
use lib.ListN.{length, get_or, take, drop, length-append, take-append-drop, get_or-append}
use lib.Seq.{get_or-append-add}
use borrow.Author.Tests.{eq-eqb, ne_eqb}
use Rattle.theory.specs.Range.{all}
use Rattle.theory.proofs.Range.{both_true, all_split, all_cong}
use Rattle.frames.specs.Frames.{is_digit, all_digits, framed}
use Rattle.frames.proofs.Bytes.{all_digits_lem}

-- whether character k is a digit
abbrev digit_at : List ℕ → ℕ → Bool
digit_at l k = is_digit (get_or l k 0)

digits_parts : (p l : List ℕ) → all_digits (p ++ l) ≡ all_digits p && all_digits l
digits_parts p l =
    let front = all_cong (length p) (digit_at (p ++ l)) (digit_at p) (λ k h. ap (λ (c : ℕ). is_digit c) (get_or-append p l 0 k h)) in
    let behind = all_cong (length l) (λ k. digit_at (p ++ l) (length p + k)) (digit_at l) (λ k h. ap (λ (c : ℕ). is_digit c) (get_or-append-add p l k 0)) in
    all_digits_lem (p ++ l) ∙ ap (λ (n : ℕ). all n (digit_at (p ++ l))) (length-append p l) ∙ all_split (digit_at (p ++ l)) (length p) (length l)
    ∙ ap₂ ◌&&◌ (front ∙ sym (all_digits_lem p)) (behind ∙ sym (all_digits_lem l))

pub digits_behind : (p l : List ℕ) → all_digits p ≡ true → all_digits l ≡ true → all_digits (p ++ l) ≡ true
digits_behind p l e f = rw (digits_parts p l, e, f)

module _ (l : List ℕ) (e : all_digits l ≡ true) (n : ℕ) where
  both_digits : (all_digits (take n l) ≡ true) × (all_digits (drop n l) ≡ true)
  both_digits = both_true (all_digits (take n l)) (all_digits (drop n l)) (sym (digits_parts (take n l) (drop n l)) ∙ ap all_digits (take-append-drop n l) ∙ e)

  pub digits_take : all_digits (take n l) ≡ true
  digits_take = both_digits.0

  pub digits_drop : all_digits (drop n l) ≡ true
  digits_drop = both_digits.1

-- ---- frames

pub framed_digits : (l : List ℕ) → framed l ≡ true → all_digits l ≡ true
unfolding framed
framed_digits l e = (both_true (eqb (length l % 2) 0) (all_digits l) (both_true (not (eqb (length l) 0)) (eqb (length l % 2) 0 && all_digits l) e).1).1

pub make_framed : (l : List ℕ) → 0 < length l → length l % 2 ≡ 0 → all_digits l ≡ true → framed l ≡ true
unfolding framed
make_framed l p q e = rw (ne_eqb (length l) 0 (λ z. omega arith), eq-eqb (length l % 2) 0 q, e)
