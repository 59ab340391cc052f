-- What it means that the sums of weights agree, as facts.
use mathlib.Core.Path.{◌≡◌}
use mathlib.Core.Bool.{true}
use Prim.Native.Nat.{ℕ, ◌<◌}
use borrow.Author.Tests.{eqb-true}
use Rattle.theory.specs.Sum.{sum}
use Rattle.theory.specs.Range.{all}
use Rattle.theory.proofs.Range.{both_true, all_true}
use Rattle.tables.specs.Plans.{Shape}
use Rattle.certificates.specs.Certify.{Weights, train_balanced, row_balanced, column_balanced, pair_balanced, balanced}

-- each train's weights sum to W, each row and each column of a pair's to the choice's weight
pub record Agrees (s : Shape) (w : Weights) : Type 0 where
  pub trains : (i : ℕ) → i < s.trains → sum (s.size i) (λ a. w.choice i a) ≡ w.full_weight
  pub rows : (k a : ℕ) → k < s.pairs → a < s.size (s.first k) → sum (s.size (s.second k)) (λ c. w.pair k a c) ≡ w.choice (s.first k) a
  pub columns : (k c : ℕ) → k < s.pairs → c < s.size (s.second k) → sum (s.size (s.first k)) (λ a. w.pair k a c) ≡ w.choice (s.second k) c

-- the test gives the facts
pub balanced_agrees : (s : Shape) (w : Weights) → balanced s w ≡ true → Agrees s w
unfolding balanced pair_balanced train_balanced row_balanced column_balanced
balanced_agrees s w e =
    record {
      trains = λ i h. eqb-true _ _ (all_true (train_balanced s w) s.trains parts.0 i h);
      rows = λ k a h q. eqb-true _ _ (all_true (row_balanced s w k) (s.size (s.first k)) (pair k h).0 a q);
      columns = λ k c h q. eqb-true _ _ (all_true (column_balanced s w k) (s.size (s.second k)) (pair k h).1 c q);
    }
  where
    parts : (all s.trains (train_balanced s w) ≡ true) × (all s.pairs (pair_balanced s w) ≡ true)
    parts = both_true _ _ e

    pair : (k : ℕ) → k < s.pairs → (all (s.size (s.first k)) (row_balanced s w k) ≡ true) × (all (s.size (s.second k)) (column_balanced s w k) ≡ true)
    pair k h = both_true _ _ (all_true (pair_balanced s w) s.pairs parts.1 k h)
