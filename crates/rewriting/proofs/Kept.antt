-- What is put back at the end of an operation: the old number wherever it is below 0. Every other place stands as the moves left it.
use mathlib.Core.Path.{◌≡◌, refl, sym, ap, ap₂, ◌∙◌}
use mathlib.Core.Bool.{true, false}
use mathlib.Core.List.{List, [], ◌∷◌}
use Prim.Native.Nat.{ℕ, zero, suc}
use native.Mathlib.Omega.{arith}
use lib.IntN.{ℤ, pos, negsuc}
use lib.ListN.{length}
use Rattle.theory.proofs.Range.{not_both}
use Rattle.tables.specs.Block.{at}
use Rattle.tables.specs.WellFormed.{is_open}
use Rattle.rewriting.specs.Judged.{kept_number, kept}
use Rattle.rewriting.proofs.Shape.{SameLoaded}

pub kept-length : (old new : List ℤ) → length old ≡ length new → length (kept old new) ≡ length new
unfolding kept
kept-length [] new e = refl
kept-length (x ∷ old) [] e = refl
kept-length (x ∷ old) (y ∷ new) e = ap suc (kept-length old new (omega arith))

kept_at : (old new : List ℤ) → length old ≡ length new → (p : ℕ) → at (kept old new) p ≡ kept_number (at old p) (at new p)
unfolding kept
kept_at [] new e p = refl
kept_at (x ∷ old) [] e p = absurd (omega arith)
kept_at (x ∷ old) (y ∷ new) e zero = refl
kept_at (x ∷ old) (y ∷ new) e (suc p) = kept_at old new (omega arith) p

number_open : (x y : ℤ) → is_open x ≡ true → kept_number x y ≡ y
unfolding is_open
number_open (pos n) y e = refl
number_open (negsuc n) y e = absurd (not_both e refl)

number_closed : (x y : ℤ) → is_open x ≡ false → kept_number x y ≡ x
unfolding is_open
number_closed (pos n) y e = absurd (not_both refl e)
number_closed (negsuc n) y e = refl

number_same : (x : ℤ) → kept_number x x ≡ x
number_same (pos n) = refl
number_same (negsuc n) = refl

module _ (old new : List ℤ) (e : length old ≡ length new) (p : ℕ) where
  -- an open place stands as the moves left it, a closed one as it was
  pub kept_open : is_open (at old p) ≡ true → at (kept old new) p ≡ at new p
  kept_open o = kept_at old new e p ∙ number_open (at old p) (at new p) o

  pub kept-closed : is_open (at old p) ≡ false → at (kept old new) p ≡ at old p
  kept-closed o = kept_at old new e p ∙ number_closed (at old p) (at new p) o

  -- what the moves did not meet
  pub kept_same : at new p ≡ at old p → at (kept old new) p ≡ at old p
  kept_same f = kept_at old new e p ∙ ap (kept_number (at old p)) f ∙ number_same (at old p)

-- with nothing forbidden, nothing is put back
pub kept_plain : (old new : List ℤ) → length old ≡ length new → ((p : ℕ) → is_open (at old p) ≡ true) → kept old new ≡ new
unfolding kept
kept_plain [] new e o = refl
kept_plain (x ∷ old) [] e o = refl
kept_plain (x ∷ old) (y ∷ new) e o = ap₂ ◌∷◌ (number_open x y (o 0)) (kept_plain old new (omega arith) (λ p. o (suc p)))

-- what is put back changes neither the shape nor H
pub kept_loaded : {b c : List ℤ} → SameLoaded b c → SameLoaded b (kept b c)
kept_loaded {b} {c} e =
    let l = sym e.shape.whole in
    record {
      shape = record { whole = kept-length b c l ∙ e.shape.whole; kept = λ p h n. kept_same b c l p (e.shape.kept p h n) };
      loaded = λ p q. kept_same b c l p (e.loaded p q);
    }
