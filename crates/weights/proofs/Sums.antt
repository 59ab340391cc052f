-- Weighted sums over what is open, and over what the choices are given: weights that spare what is forbidden count open entries only, and what the choices are given weighs what the rows
-- and the columns give. That weighted sums are linear stands in `certificates`.
use mathlib.Core.Path.{◌≡◌, refl, sym, ap, ap₂, ◌∙◌}
use mathlib.Core.Bool.{Bool, true, false, cond}
use Prim.Native.Nat.{ℕ, ◌+◌, ◌*◌, ◌<◌}
use native.Mathlib.Nat.{mul-zero, zero-mul}
use native.Mathlib.Omega.{arith}
use lib.Dec.{eqb}
use borrow.Author.Tests.{eq-eqb, ne_eqb}
use Rattle.theory.specs.Sum.{sum}
use Rattle.theory.proofs.Sum.{sum_cong, sum-add, sum-zero, sum_one}
use Rattle.tables.specs.Plans.{Shape}
use Rattle.tables.proofs.Plans.{Shaped}
use Rattle.certificates.specs.Certify.{Weights, over_choices, over_pairs}
use Rattle.certificates.proofs.Agrees.{Agrees}
use Rattle.certificates.proofs.Rivals.{choices_add, choices_sum, by_rows, by_columns}
use Rattle.weights.specs.Weights.{Spares}
use Rattle.weights.specs.Moves.{Moves, given_by, given}

-- a weighted term counts only where it is open
spared : (o : Bool) (w f g : ℕ) → (o ≡ false → w ≡ 0) → (o ≡ true → f ≡ g) → w * f ≡ w * g
spared true w f g z e = ap (λ (v : ℕ). w * v) (e refl)
spared false w f g z e = rw (z refl) (zero-mul f ∙ sym (zero-mul g))

module _ (s : Shape) (w : Weights) where
  -- of what is given to one train only
  choices_one : (j : ℕ) (f : ℕ → ℕ) → j < s.trains → over_choices s w (λ i a. cond (eqb j i) (f a) 0) ≡ sum (s.size j) (λ a. w.choice j a * f a)
  unfolding over_choices
  choices_one j f h =
      let at_train : ℕ → ℕ = λ i. sum (s.size i) (λ a. w.choice i a * cond (eqb j i) (f a) 0) in
      omega (
        arith,
        sum_one s.trains j at_train (λ i. 0) h (λ i l d. sum_cong (s.size i) _ _ (λ a q. rw (ne_eqb j i (λ e. d (sym e))) (mul-zero (w.choice i a))) ∙ sum-zero (s.size i)),
        sum-zero s.trains,
        sum_cong (s.size j) (λ a. w.choice j a * cond (eqb j j) (f a) 0) (λ a. w.choice j a * f a) (λ a q. rw (eq-eqb j j refl)),
      )

  -- of weights that spare what is forbidden, open entries are all that counts
  module _ (sp : Spares s w) where
    pub choices_spared : (f g : ℕ → ℕ → ℕ) → ((i a : ℕ) → i < s.trains → a < s.size i → s.choice_open i a ≡ true → f i a ≡ g i a)
        → over_choices s w f ≡ over_choices s w g
    unfolding over_choices
    choices_spared f g h =
        sum_cong s.trains _ _ (λ i p. sum_cong (s.size i) _ _ (λ a q. spared (s.choice_open i a) (w.choice i a) (f i a) (g i a) (sp.choices i a p q) (h i a p q)))

    pub pairs-spared : (f g : ℕ → ℕ → ℕ → ℕ)
        → ((k a c : ℕ) → k < s.pairs → a < s.size (s.first k) → c < s.size (s.second k) → s.entry_open k a c ≡ true → f k a c ≡ g k a c)
        → over_pairs s w f ≡ over_pairs s w g
    unfolding over_pairs
    pairs-spared f g h =
        sum_cong s.pairs _ _ (λ k p. sum_cong (s.size (s.first k)) _ _ (λ a q. sum_cong (s.size (s.second k)) _ _ (λ c r.
        spared (s.entry_open k a c) (w.pair k a c) (f k a c) (g k a c) (sp.entries k a c p q r) (h k a c p q r))))

  -- what the choices are given is what the rows and the columns give
  pub given-weighted : Agrees s w → Shaped s → (m : Moves) → over_choices s w (given s m) ≡ over_pairs s w (λ k a c. m.row k a) + over_pairs s w (λ k a c. m.column k c)
  unfolding given
  given-weighted ag sh m =
      choices_sum s w s.pairs (λ k i a. given_by s m i a k)
      ∙ sum_cong s.pairs _ _ (λ k h.
      choices_add s w (λ i a. cond (eqb (s.first k) i) (m.row k a) 0) (λ i a. cond (eqb (s.second k) i) (m.column k a) 0)
      ∙ ap₂ ◌+◌ (choices_one (s.first k) (m.row k) (omega (arith, sh.ascends k h, sh.inside k h))) (choices_one (s.second k) (m.column k) (sh.inside k h)))
      ∙ sum-add s.pairs (λ k. sum (s.size (s.first k)) (λ a. w.choice (s.first k) a * m.row k a)) (λ k. sum (s.size (s.second k)) (λ c. w.choice (s.second k) c * m.column k c))
      ∙ sym (ap₂ ◌+◌ (by_rows s w ag m.row) (by_columns s w ag m.column))
