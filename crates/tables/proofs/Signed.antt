-- Signed numbers of 64 bits: what the code's tests, casts and joined bits say of them.
use mathlib.Core.Path.{◌≡◌, refl, sym, ap, ap₂, ◌∙◌}
use mathlib.Core.List.{List}
use mathlib.Core.Bool.{Bool, true, ◌&&◌}
use Prim.Native.Nat.{ℕ, zero, suc, ◌+◌, ◌-◌, ◌<◌, ◌^◌}
use native.Mathlib.Omega.{arith}
use borrow.Author.Tests.{le-leb, lt-ltb, eqb-true, eq-eqb}
use lib.Bits.{bit_or, or_add_and, and_le_l, and_le_r}
use lib.Dec.{leb, eqb}
use lib.IntN.{ℤ, pos, negsuc, nat_abs}
use lib.ListN.{get_or, take, drop}
use lib.Signed.{mag, le_z}
use Rattle.std.proofs.lemmas.Int.{to_z-of_z, to_z_pos}
use mir.Facts.{Fits-or, of_z-to_z}
use mir.Syntax.{w64}
use mir.ValLaws.{of_z_fits}
use mir.Val.{Fits, SFits, to_z, of_z}
use Rattle.std.specs.Int.{int_max, FitsUnsignedBits}
use Rattle.std.specs.Ordering.{is_le, nat_cmp}
use Rattle.std.proofs.lemmas.Bool.Decides.{nat_tests}
use Rattle.theory.proofs.Range.{both_true, bool_ext, all_next}
use Rattle.theory.proofs.Lists.{part_at}
use Rattle.tables.specs.declared.place_limits.Limits.{Limits}
use Rattle.tables.specs.Block.{nat}
use Rattle.tables.specs.WellFormed.{from_to, within, is_open}
use Rattle.tables.specs.Rows.{run_within}
use Rattle.tables.proofs.Limits.{within_parts, within_high}

-- a number is open where it is not below 0
sign_open : (z : ℤ) → le_z (pos 0) z ≡ is_open z
unfolding is_open
sign_open (pos n) = le-leb 0 n (omega arith)
sign_open (negsuc n) = refl

pub not_below_open : (z : ℤ) → SFits w64 z → le_z (pos 0) (to_z w64 (of_z w64 z)) ≡ is_open z
not_below_open z f = rw (to_z-of_z w64 z f) (sign_open z)

-- the greater of a number and 0 is the number as a natural one
greater : (z : ℤ) → int_max z (pos 0) ≡ pos (nat z)
greater (pos zero) = refl
greater (pos (suc n)) = rw (lt-ltb 0 (suc n) (omega arith))
greater (negsuc n) = refl

nat_fits : (z : ℤ) → mag z < 2 ^ 63 → nat z < 2 ^ 63
nat_fits (pos n) h = h
nat_fits (negsuc n) h = omega arith

pub max_nat : (z m : ℤ) → SFits w64 z → m ≡ int_max (to_z w64 (of_z w64 z)) (pos 0) → nat_abs (to_z w64 (of_z w64 m)) ≡ nat z
max_nat z m f e =
    let h : m ≡ pos (nat z) = e ∙ ap (λ (y : ℤ). int_max y (pos 0)) (to_z-of_z w64 z f) ∙ greater z in
    rw (h, to_z_pos w64 (nat z) (nat_fits z f.sfits))

-- ---- within limits

-- a comparison of natural numbers as the code has it
cmp_le : (x y : ℕ) → is_le (nat_cmp x y) ≡ leb x y
cmp_le x y = grind (arith, nat_tests)

natural : (l : Limits) (z : ℤ) → FitsUnsignedBits 64 z → within l z ≡ leb l.low (nat_abs z) && leb (nat_abs z) l.high
unfolding within
natural l (pos n) g = refl
natural l (negsuc n) g = absurd g

negative : (l : Limits) (z : ℤ) → SFits w64 z → (FitsUnsignedBits 64 z → ⊥) → within l z ≡ l.closable && eqb (of_z w64 z) (of_z w64 (negsuc 0))
unfolding within
negative l (pos n) f g = absurd (g (omega (arith, f.sfits)))
negative l (negsuc n) f g =
    ap (λ (t : Bool). l.closable && t)
    (bool_ext (eqb n 0) _ (λ e. eq-eqb _ _ (omega (arith, eqb-true n 0 e))) (λ e. eq-eqb n 0 (omega (arith, f.sfits, eqb-true _ _ e))))

module _ (l : Limits) (z : ℤ) (f : SFits w64 z) where
  -- a number that is natural is compared as a natural one
  pub natural-within : (n : ℕ) → FitsUnsignedBits 64 (to_z w64 (of_z w64 z)) → n ≡ nat_abs (to_z w64 (of_z w64 z))
      → within l z ≡ is_le (nat_cmp l.low n) && is_le (nat_cmp n l.high)
  natural-within n g e = rw (cmp_le l.low n, cmp_le n l.high, e, to_z-of_z w64 z f) (natural l z (rw (to_z-of_z w64 z f) at g))

  -- of the other numbers only −1 may be within limits
  pub negative-within : (FitsUnsignedBits 64 (to_z w64 (of_z w64 z)) → ⊥) → within l z ≡ l.closable && eqb (of_z w64 z) (of_z w64 (negsuc 0))
  negative-within g = negative l z f (rw (to_z-of_z w64 z f) at g)

pub ruleset allowed = (natural-within, negative-within)

-- ---- the bits of a number

within_zero : (n : ℕ) → within (from_to 0 0) (pos n) ≡ leb 0 n && leb n 0
unfolding within
within_zero n = refl

within_none : (z : ℤ) → within (from_to 0 0) z ≡ true → z ≡ pos 0
within_none z e =
    let w = within_parts (from_to 0 0) z refl e in
    let h : nat z ≡ 0 = omega (arith, within_high (from_to 0 0) z e) in
    w.0 ∙ ap pos h

-- bits of two numbers that are joined are 0 where both numbers are
pub or_none : (a b : ℕ) → eqb (bit_or a b) 0 ≡ eqb a 0 && eqb b 0
or_none a b = bool_ext (eqb (bit_or a b) 0) (eqb a 0 && eqb b 0) both joined
  where
    both : eqb (bit_or a b) 0 ≡ true → eqb a 0 && eqb b 0 ≡ true
    both e =
        let h : (a ≡ 0) × (b ≡ 0) = omega (arith, or_add_and a b, and_le_l a b, and_le_r a b, eqb-true (bit_or a b) 0 e) in
        rw (h.0, h.1)

    joined : eqb a 0 && eqb b 0 ≡ true → eqb (bit_or a b) 0 ≡ true
    joined e = let h = both_true (eqb a 0) (eqb b 0) e in rw (eqb-true a 0 h.0, eqb-true b 0 h.1)

module _ (z : ℤ) (f : SFits w64 z) where
  -- the bits of a number are 0 where it is 0
  pub bits_none : eqb (of_z w64 z) 0 ≡ within (from_to 0 0) z
  bits_none =
      bool_ext (eqb (of_z w64 z) 0) (within (from_to 0 0) z)
      (λ e. let h : z ≡ pos 0 = sym (to_z-of_z w64 z f) ∙ ap (to_z w64) (eqb-true (of_z w64 z) 0 e) in rw h (within_zero 0))
      (λ e. rw (within_none z e))

  -- and bits that its own are joined to are 0 where they were 0 before, and it is 0
  pub joined_none : (a : ℕ) → eqb (bit_or a (of_z w64 z)) 0 ≡ eqb a 0 && within (from_to 0 0) z
  joined_none a = or_none a (of_z w64 z) ∙ ap (λ (t : Bool). eqb a 0 && t) bits_none

-- ---- the bits of a run of places, joined

module _ (b : List ℤ) (from n k a : ℕ) where
  -- what the bits a say of the first k places
  abbrev pub joined_run : Type 0
  joined_run = eqb (of_z w64 (to_z w64 a)) 0 ≡ run_within b from k (from_to 0 0)

  pub joined_next : SFits w64 (get_or (take (from + n - from) (drop from b)) k (pos 0)) → Fits w64 a → k < n → joined_run
      → eqb (of_z w64 (to_z w64 (bit_or a (of_z w64 (get_or (take (from + n - from) (drop from b)) k (pos 0)))))) 0 ≡ run_within b from (k + 1) (from_to 0 0)
  joined_next f g h e =
      let z = get_or (take (from + n - from) (drop from b)) k (pos 0) in
      ap (λ (i : ℕ). eqb i 0) (of_z-to_z (Fits-or g (of_z_fits w64 z f))) ∙ joined_none z f a
      ∙ ap₂ ◌&&◌ (ap (λ (i : ℕ). eqb i 0) (sym (of_z-to_z g)) ∙ e) (ap (within (from_to 0 0)) (part_at b from n k (pos 0) h))
      ∙ sym (all_next _ k)
