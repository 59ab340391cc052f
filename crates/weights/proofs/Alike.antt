-- Two shapes that agree where they are used have the same weights, and these weigh the same.
use mathlib.Core.Path.{◌≡◌, sym, ap, ap₂, ◌∙◌}
use Prim.Native.Nat.{ℕ, ◌*◌}
use native.Mathlib.Omega.{arith}
use Rattle.theory.specs.Sum.{sum}
use Rattle.theory.proofs.Sum.{sum_cong}
use Rattle.tables.specs.Plans.{Costs, Shape, AlikeShapes}
use Rattle.tables.proofs.Plans.{Shaped, first-size, second-size}
use Rattle.certificates.specs.Certify.{Weights, over_choices, over_pairs, weighted}
use Rattle.certificates.proofs.Agrees.{Agrees}
use Rattle.weights.specs.Weights.{Spares}

module _ {s u : Shape} (e : AlikeShapes s u) (sh : Shaped s) where
  -- weights of u are weights of s
  pub alike_agrees : (w : Weights) → Agrees u w → Agrees s w
  alike_agrees w ag =
      record {
        trains = λ i h. ap (λ (n : ℕ). sum n (λ a. w.choice i a)) (e.sizes_same i h) ∙ ag.trains i (omega (arith, e.trains_same));
        rows = λ k a h q.
            ap (λ (n : ℕ). sum n (λ c. w.pair k a c)) (second-size e sh k h) ∙ ag.rows k a (omega (arith, e.pairs_same)) (omega (arith, first-size e sh k h))
            ∙ ap (λ (i : ℕ). w.choice i a) (sym (e.firsts_same k h));
        columns = λ k c h q.
            ap (λ (n : ℕ). sum n (λ a. w.pair k a c)) (first-size e sh k h) ∙ ag.columns k c (omega (arith, e.pairs_same)) (omega (arith, second-size e sh k h))
            ∙ ap (λ (i : ℕ). w.choice i c) (sym (e.seconds_same k h));
      }

  pub alike_spares : (w : Weights) → Spares u w → Spares s w
  alike_spares w sp =
      record {
        choices = λ i a h q o. sp.choices i a (omega (arith, e.trains_same)) (omega (arith, e.sizes_same i h)) (sym (e.choices_open_same i a h q) ∙ o);
        entries = λ k a c h q r o.
            sp.entries k a c (omega (arith, e.pairs_same)) (omega (arith, first-size e sh k h)) (omega (arith, second-size e sh k h)) (sym (e.entries_open_same k a c h q r) ∙ o);
      }

  pub alike_weighted : (w : Weights) (t : Costs) → weighted s w t ≡ weighted u w t
  unfolding weighted over_choices over_pairs
  alike_weighted w t =
      omega (
        arith,
        ap (λ (n : ℕ). sum n (λ i. sum (u.size i) (λ a. w.choice i a * t.choice i a))) e.trains_same,
        sum_cong s.trains (λ i. sum (s.size i) (λ a. w.choice i a * t.choice i a)) (λ i. sum (u.size i) (λ a. w.choice i a * t.choice i a))
            (λ i h. ap (λ (n : ℕ). sum n (λ a. w.choice i a * t.choice i a)) (e.sizes_same i h)),
        ap (λ (n : ℕ). sum n (λ k. sum (u.size (u.first k)) (λ a. sum (u.size (u.second k)) (λ c. w.pair k a c * t.pair k a c)))) e.pairs_same,
        sum_cong s.pairs (λ k. sum (s.size (s.first k)) (λ a. sum (s.size (s.second k)) (λ c. w.pair k a c * t.pair k a c)))
            (λ k. sum (u.size (u.first k)) (λ a. sum (u.size (u.second k)) (λ c. w.pair k a c * t.pair k a c)))
            (λ k h. ap₂ (λ (m n : ℕ). sum m (λ a. sum n (λ c. w.pair k a c * t.pair k a c))) (first-size e sh k h) (second-size e sh k h)),
      )
