-- A plan is weights with W = 1 that agree and spare what is forbidden, and its total is their weighted total: so every rewriting keeps the total of every plan.
use mathlib.Core.Path.{◌≡◌, refl, sym, ap, ◌∙◌}
use mathlib.Core.Bool.{Bool, true, false}
use Prim.Native.Nat.{ℕ, ◌*◌, ◌<◌}
use native.Mathlib.Nat.{mul-one, mul_assoc, mul-zero, zero-mul}
use native.Mathlib.Decide.{ℕ_discrete}
use native.Mathlib.Omega.{arith}
use borrow.Author.Tests.{eq-eqb, ne_eqb}
use Rattle.theory.specs.Sum.{sum}
use Rattle.theory.proofs.Range.{not_both}
use Rattle.tables.specs.Plans.{Costs, Shape, IsPlan, choice_total, pair_total, total}
use Rattle.theory.proofs.Sum.{sum_cong, sum-scale, sum_one, sum-zero, sum_pick}
use Rattle.tables.proofs.Plans.{Shaped, plan_first, plan_second}
use Rattle.certificates.specs.Certify.{over_choices, over_pairs, weighted}
use Rattle.certificates.proofs.Agrees.{Agrees}
use Rattle.weights.specs.Weights.{Spares, takes, plan_weights}
use Rattle.weights.specs.Moves.{Moves, Rewritten}
use Rattle.weights.proofs.Rewritten.{rewritten_weighted}

-- what a plan takes of a range: one term
takes-sum : (n b : ℕ) (f : ℕ → ℕ) → b < n → sum n (λ a. takes b a * f a) ≡ f b
takes-sum n b f h =
    let e : takes b b * f b ≡ f b = rw (eq-eqb b b refl) (omega arith) in
    omega (arith, sum_one n b (λ a. takes b a * f a) (λ a. 0) h (λ a l d. rw (ne_eqb b a (λ e. d (sym e))) (zero-mul (f a))), sum-zero n, e)

-- a closed choice is not taken, and neither is a closed entry
choice_closed : (o : ℕ → Bool) (b a : ℕ) → o b ≡ true → o a ≡ false → takes b a ≡ 0
choice_closed o b a p q = by (ℕ_discrete b a)
  where
    by : Dec (b ≡ a) → takes b a ≡ 0
    by (yes e) = absurd (not_both (ap o (sym e) ∙ p) q)
    by (no n) = rw (ne_eqb b a n)

entry_closed : (o : ℕ → ℕ → Bool) (b d a c : ℕ) → o b d ≡ true → o a c ≡ false → takes b a * takes d c ≡ 0
entry_closed o b d a c p q = by (ℕ_discrete b a)
  where
    by : Dec (b ≡ a) → takes b a * takes d c ≡ 0
    by (yes e) = rw (choice_closed (o a) d c (ap (λ (v : ℕ). o v d) (sym e) ∙ p) q) (mul-zero (takes b a))
    by (no n) = rw (ne_eqb b a n) (zero-mul (takes d c))

module _ (s : Shape) (sh : Shaped s) (x : ℕ → ℕ) (p : IsPlan s x) where
  pub plan_agrees : Agrees s (plan_weights s x)
  plan_agrees =
      record {
        trains = λ i h. sum_pick (s.size i) (x i) 1 (p.below i h);
        rows = λ k a h q.
            sum-scale (s.size (s.second k)) (takes (x (s.first k)) a) (takes (x (s.second k)))
            ∙ ap (λ (v : ℕ). takes (x (s.first k)) a * v) (sum_pick (s.size (s.second k)) (x (s.second k)) 1 (plan_second s sh x p k h)) ∙ mul-one _;
        columns = λ k c h q. takes-sum (s.size (s.first k)) (x (s.first k)) (λ a. takes (x (s.second k)) c) (plan_first s sh x p k h);
      }

  pub plan_spares : Spares s (plan_weights s x)
  plan_spares =
      record {
        choices = λ i a h q z. choice_closed (s.choice_open i) (x i) a (p.choices i h) z;
        entries = λ k a c h q r z. entry_closed (s.entry_open k) (x (s.first k)) (x (s.second k)) a c (p.entries k h) z;
      }

  pub plan_weighted : (t : Costs) → weighted s (plan_weights s x) t ≡ total s t x
  unfolding weighted over_choices over_pairs total choice_total pair_total
  plan_weighted t =
      omega (
        arith,
        sum_cong s.trains _ _ (λ i h. takes-sum (s.size i) (x i) (t.choice i) (p.below i h)),
        sum_cong s.pairs _ _ at_pair,
      )
    where
      at_pair : (k : ℕ) → k < s.pairs
          → sum (s.size (s.first k)) (λ a. sum (s.size (s.second k)) (λ c. takes (x (s.first k)) a * takes (x (s.second k)) c * t.pair k a c))
          ≡ t.pair k (x (s.first k)) (x (s.second k))
      at_pair k h =
          sum_cong (s.size (s.first k)) _ _ (λ a q.
          sum_cong (s.size (s.second k)) _ _ (λ c r. mul_assoc (takes (x (s.first k)) a) (takes (x (s.second k)) c) (t.pair k a c))
          ∙ sum-scale (s.size (s.second k)) (takes (x (s.first k)) a) (λ c. takes (x (s.second k)) c * t.pair k a c)
          ∙ ap (λ (v : ℕ). takes (x (s.first k)) a * v) (takes-sum (s.size (s.second k)) (x (s.second k)) (t.pair k a) (plan_second s sh x p k h)))
          ∙ takes-sum (s.size (s.first k)) (x (s.first k)) (λ a. t.pair k a (x (s.second k))) (plan_first s sh x p k h)

  -- so a rewriting keeps the plan's total
  pub rewritten_total : (t u : Costs) (up down : Moves) → Rewritten s t u up down → total s u x ≡ total s t x
  rewritten_total t u up down r =
      sym (plan_weighted u) ∙ rewritten_weighted s sh (plan_weights s x) plan_agrees plan_spares t u up down r ∙ plan_weighted t
