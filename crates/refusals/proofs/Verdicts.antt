-- Laws of verdicts: the first reason to decline.
use mathlib.Core.Path.{◌≡◌, refl, sym, ap, ◌∙◌}
use mathlib.Core.Bool.{Bool, true, false, not}
use mathlib.Core.Logic.{⊎_elim}
use Prim.Native.Nat.{ℕ, zero, suc, ◌+◌, ◌<◌}
use native.Mathlib.Numerals.{add-one}
use native.Mathlib.Omega.{arith}
use borrow.Author.Tests.{not-true, not-false}
use Rattle.theory.proofs.Range.{below_suc}
use Rattle.refusals.specs.declared.Refusal.{Refusal}
use Rattle.std.specs.Prelude.{Ok, Err}
use Rattle.refusals.specs.Verdicts.{Verdict, Fine, then, is_fine, first_of, unless}

pub is_fine_lem : (v : Verdict) → is_fine v ≡ true → v ≡ Fine
is_fine_lem (Ok tt) e = refl
is_fine_lem (Err r) e = cc

pub then_declined : (v w : Verdict) → is_fine v ≡ false → then v w ≡ v
then_declined (Ok _) w e = cc
then_declined (Err r) w e = refl

pub then_fine : (v w : Verdict) → then v w ≡ Fine → (v ≡ Fine) × (w ≡ Fine)
then_fine (Ok tt) w e = (refl, e)
then_fine (Err r) w e = cc

pub then_both : (v w : Verdict) → v ≡ Fine → w ≡ Fine → then v w ≡ Fine
then_both v w e f = rw (e, f)

pub unless_fine : (t : Bool) (r : Refusal) → unless t r ≡ Fine → t ≡ true
unless_fine true r e = refl
unless_fine false r e = cc

-- what the code learns of a verdict v from a call's answer r, where it asks whether r is fine
pub went_on : {t : Bool} (r v : Verdict) → t ≡ is_fine r → r ≡ v → not t ≡ false → v ≡ Fine
went_on r v e f g = sym f ∙ is_fine_lem r (sym e ∙ not-false _ g)

pub declined : {t : Bool} (r v w : Verdict) → t ≡ is_fine r → r ≡ v → not t ≡ true → r ≡ then v w
declined r v w e f g = f ∙ sym (then_declined v w (ap is_fine (sym f) ∙ sym e ∙ not-true _ g))

module _ (f : ℕ → Verdict) where
  pub first_none : first_of 0 f ≡ Fine
  unfolding first_of
  first_none = refl

  -- a loop's next turn
  pub first_more : (n : ℕ) → first_of n f ≡ Fine → f n ≡ Fine → first_of (n + 1) f ≡ Fine
  unfolding first_of
  first_more n e g = rw (add-one, e, g)

  first-declined : (n k : ℕ) → k < n → first_of k f ≡ Fine → is_fine (f k) ≡ false → first_of n f ≡ f k
  unfolding first_of
  first-declined zero k h e g = absurd (omega arith)
  first-declined (suc n) k h e g =
      ⊎_elim
      (λ (q : k ≡ n). rw (← q, e))
      (λ (q : k < n). let d = first-declined n k q e g in rw d (then_declined (f k) (f n) g))
      (below_suc k n h)

  -- a loop that ends with the reason of its turn
  pub first_err : (n k : ℕ) {r : Refusal} → k < n → first_of k f ≡ Fine → f k ≡ Err r → first_of n f ≡ Err r
  first_err n k h e g = first-declined n k h e (ap is_fine g) ∙ g

  -- a loop that ends with the answer r of its turn
  pub stopped : {t : Bool} (n k : ℕ) (r : Verdict) → k < n → first_of k f ≡ Fine → t ≡ is_fine r → r ≡ f k → not t ≡ true → r ≡ first_of n f
  stopped n k r h e d q g = q ∙ sym (first-declined n k h e (ap is_fine (sym q) ∙ sym d ∙ not-true _ g))

  pub first-all : (n : ℕ) → ((k : ℕ) → k < n → f k ≡ Fine) → first_of n f ≡ Fine
  unfolding first_of
  first-all zero h = refl
  first-all (suc n) h = then_both (first_of n f) (f n) (first-all n (λ k q. h k (omega arith))) (h n (omega arith))

  pub first_fine : (n : ℕ) → first_of n f ≡ Fine → (k : ℕ) → k < n → f k ≡ Fine
  unfolding first_of
  first_fine zero e k h = absurd (omega arith)
  first_fine (suc n) e k h =
      ⊎_elim
      (λ (q : k ≡ n). rw q (then_fine (first_of n f) (f n) e).1)
      (λ (q : k < n). first_fine n (then_fine (first_of n f) (f n) e).0 k q)
      (below_suc k n h)
