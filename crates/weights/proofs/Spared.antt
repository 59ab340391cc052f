-- The test of 18 and what it says.
use mathlib.Core.Path.{◌≡◌, refl}
use mathlib.Core.Bool.{Bool, true, false, ◌||◌}
use Prim.Native.Nat.{ℕ}
use lib.Dec.{eqb}
use borrow.Author.Tests.{eqb-true, eq-eqb}
use Rattle.theory.specs.Range.{all}
use Rattle.theory.proofs.Range.{both_true, not_both, all_true, all_intro}
use Rattle.tables.specs.Plans.{Shape}
use Rattle.certificates.specs.Certify.{Weights, choice_spared, entry_spared, spared}
use Rattle.weights.specs.Weights.{Spares}

closed_none : (o : Bool) (v : ℕ) → o || eqb v 0 ≡ true → o ≡ false → v ≡ 0
closed_none true v e f = absurd (not_both refl f)
closed_none false v e f = eqb-true v 0 e

none_closed : (o : Bool) (v : ℕ) → (o ≡ false → v ≡ 0) → o || eqb v 0 ≡ true
none_closed true v h = refl
none_closed false v h = eq-eqb v 0 (h refl)

module _ (s : Shape) (w : Weights) where
  pub spared_spares : spared s w ≡ true → Spares s w
  unfolding spared choice_spared entry_spared
  spared_spares e =
      let f = both_true (all s.trains (λ i. all (s.size i) (choice_spared s w i)))
      (all s.pairs (λ k. all (s.size (s.first k)) (λ a. all (s.size (s.second k)) (entry_spared s w k a)))) e in
      record {
        choices = λ i a h q. closed_none (s.choice_open i a) (w.choice i a) (all_true _ (s.size i) (all_true _ s.trains f.0 i h) a q);
        entries = λ k a c h q r.
            closed_none (s.entry_open k a c) (w.pair k a c) (all_true _ (s.size (s.second k)) (all_true _ (s.size (s.first k)) (all_true _ s.pairs f.1 k h) a q) c r);
      }

  pub spares_spared : Spares s w → spared s w ≡ true
  unfolding spared choice_spared entry_spared
  spares_spared x =
      rw (
        all_intro (λ i. all (s.size i) (choice_spared s w i)) s.trains (λ i h. all_intro _ (s.size i) (λ a q. none_closed (s.choice_open i a) (w.choice i a) (x.choices i a h q))),
        all_intro (λ k. all (s.size (s.first k)) (λ a. all (s.size (s.second k)) (entry_spared s w k a))) s.pairs
            (λ k h. all_intro _ (s.size (s.first k)) (λ a q. all_intro _ (s.size (s.second k)) (λ c r. none_closed (s.entry_open k a c) (w.pair k a c) (x.entries k a c h q r)))),
      )
