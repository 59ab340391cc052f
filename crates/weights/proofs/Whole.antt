-- Document 02, change 12: weights that agree and stand on one plan alone weigh every table as that plan's total, so where their ceiling is reached no plan's total is lower. Weights with W = 1 that agree stand
-- on one plan: of naturals whose sum is 1, one is 1. `Plans` goes from a plan to weights, this is the way back.
use mathlib.Core.Path.{◌≡◌, refl, sym, ap, ◌∙◌}
use mathlib.Core.Bool.{Bool, true, false}
use Prim.Native.Nat.{ℕ, ◌+◌, ◌*◌, ◌<◌, ◌≤◌}
use native.Mathlib.Nat.{mul-add, zero-mul, le_antisymm, le_of_mul-le-mul_left}
use native.Mathlib.Decide.{ℕ_discrete}
use native.Mathlib.Omega.{arith}
use Rattle.theory.specs.Sum.{sum}
use Rattle.theory.proofs.Sum.{sum_cong, sum_apart, zero_terms, other_terms, sole_term, sum-scale, sum-zero, first_nonzero, nonzero_is_1}
use Rattle.tables.specs.Plans.{Costs, Shape, IsPlan, choice_total, pair_total, total}
use Rattle.tables.proofs.Plans.{Shaped, constant_at_most_total}
use Rattle.certificates.specs.Certify.{Weights, over_choices, over_pairs, weighted}
use Rattle.certificates.proofs.Agrees.{Agrees}
use Rattle.weights.specs.Weights.{Spares}

-- all of W stands on the choices of x
pub record Whole (s : Shape) (w : Weights) (x : ℕ → ℕ) : Type 0 where
  pub there : (i : ℕ) → i < s.trains → x i < s.size i
  pub all : (i : ℕ) → i < s.trains → w.choice i (x i) ≡ w.full_weight

module _ (s : Shape) (sh : Shaped s) (w : Weights) (ag : Agrees s w) (x : ℕ → ℕ) (on : Whole s w x) where
  -- every other choice has weight 0
  pub other_choice : (i a : ℕ) → i < s.trains → a < s.size i → (a ≡ x i → ⊥) → w.choice i a ≡ 0
  other_choice i a h q d = other_terms (s.size i) (x i) (w.choice i) (on.there i h) (ag.trains i h ∙ sym (on.all i h)) a q d

  choice_term : (t : Costs) (i : ℕ) → i < s.trains → sum (s.size i) (λ a. w.choice i a * t.choice i a) ≡ w.full_weight * t.choice i (x i)
  choice_term t i h =
      sole_term (s.size i) (x i) (λ a. w.choice i a * t.choice i a) (on.there i h) (λ a q d. rw (other_choice i a h q d) (zero-mul (t.choice i a)))
      ∙ ap (λ (v : ℕ). v * t.choice i (x i)) (on.all i h)

  module _ (k : ℕ) (h : k < s.pairs) where
    first_there : s.first k < s.trains
    first_there = omega (arith, sh.ascends k h, sh.inside k h)

    -- the rows of its first train's other choices are 0, and so are the columns of its second's
    other_row : (a c : ℕ) → a < s.size (s.first k) → c < s.size (s.second k) → (a ≡ x (s.first k) → ⊥) → w.pair k a c ≡ 0
    other_row a c q r d = zero_terms (s.size (s.second k)) (w.pair k a) (ag.rows k a h q ∙ other_choice (s.first k) a first_there q d) c r

    other_column : (a c : ℕ) → a < s.size (s.first k) → c < s.size (s.second k) → (c ≡ x (s.second k) → ⊥) → w.pair k a c ≡ 0
    other_column a c q r d = zero_terms (s.size (s.first k)) (λ e. w.pair k e c) (ag.columns k c h r ∙ other_choice (s.second k) c (sh.inside k h) r d) a q

    -- so every other entry has weight 0
    pub other_entry : (a c : ℕ) → a < s.size (s.first k) → c < s.size (s.second k) → ((a ≡ x (s.first k)) × (c ≡ x (s.second k)) → ⊥) → w.pair k a c ≡ 0
    other_entry a c q r d = go (ℕ_discrete a (x (s.first k)))
      where
        go : Dec (a ≡ x (s.first k)) → w.pair k a c ≡ 0
        go (yes e) = other_column a c q r (λ f. d (e, f))
        go (no n) = other_row a c q r n

    -- and the plan's has all of W
    pub plan_entry : w.pair k (x (s.first k)) (x (s.second k)) ≡ w.full_weight
    plan_entry =
        let q = on.there (s.first k) first_there in
        sym (sole_term (s.size (s.second k)) (x (s.second k)) (w.pair k (x (s.first k))) (on.there (s.second k) (sh.inside k h)) (λ c r d. other_column (x (s.first k)) c q r d))
        ∙ ag.rows k (x (s.first k)) h q
        ∙ on.all (s.first k) first_there

    pair_term : (t : Costs) → sum (s.size (s.first k)) (λ a. sum (s.size (s.second k)) (λ c. w.pair k a c * t.pair k a c)) ≡ w.full_weight * t.pair k (x (s.first k)) (x (s.second k))
    pair_term t =
        sole_term (s.size (s.first k)) (x (s.first k)) (λ a. sum (s.size (s.second k)) (λ c. w.pair k a c * t.pair k a c)) (on.there (s.first k) first_there) row_zero
        ∙ sole_term (s.size (s.second k)) (x (s.second k)) (λ c. w.pair k (x (s.first k)) c * t.pair k (x (s.first k)) c) (on.there (s.second k) (sh.inside k h))
        (λ c r n. rw (other_column (x (s.first k)) c (on.there (s.first k) first_there) r n) (zero-mul (t.pair k (x (s.first k)) c)))
        ∙ ap (λ (v : ℕ). v * t.pair k (x (s.first k)) (x (s.second k))) plan_entry
      where
        row_zero : (a : ℕ) → a < s.size (s.first k) → (a ≡ x (s.first k) → ⊥) → sum (s.size (s.second k)) (λ c. w.pair k a c * t.pair k a c) ≡ 0
        row_zero a q n =
            sum_cong (s.size (s.second k)) (λ c. w.pair k a c * t.pair k a c) (λ c. 0) (λ c r. rw (other_row a c q r n) (zero-mul (t.pair k a c))) ∙ sum-zero (s.size (s.second k))

  -- every table weighs W times the plan's total
  pub weighs_plan : (t : Costs) → weighted s w t ≡ w.full_weight * total s t x
  unfolding weighted over_choices over_pairs total choice_total pair_total
  weighs_plan t =
      omega (
        arith,
        sum_cong s.trains (λ i. sum (s.size i) (λ a. w.choice i a * t.choice i a)) (λ i. w.full_weight * t.choice i (x i)) (choice_term t),
        sum-scale s.trains w.full_weight (λ i. t.choice i (x i)),
        sum_cong s.pairs (λ k. sum (s.size (s.first k)) (λ a. sum (s.size (s.second k)) (λ c. w.pair k a c * t.pair k a c)))
            (λ k. w.full_weight * t.pair k (x (s.first k)) (x (s.second k))) (λ k h. pair_term k h t),
        sum-scale s.pairs w.full_weight (λ k. t.pair k (x (s.first k)) (x (s.second k))),
        mul-add w.full_weight (t.constant + choice_total s t x) (pair_total s t x),
        mul-add w.full_weight t.constant (choice_total s t x),
      )

  -- where the ceiling is reached, its total is the constant, and no plan's is lower
  module _ (t : Costs) (some : 0 < w.full_weight) (reached : weighted s w t ≡ w.full_weight * t.constant) where
    pub whole_total : total s t x ≡ t.constant
    whole_total = le_antisymm (le_of_mul-le-mul_left (omega (arith, weighs_plan t, reached)) some) (constant_at_most_total s t x)

    pub whole_least : (y : ℕ → ℕ) → total s t x ≤ total s t y
    whole_least y = omega (arith, whole_total, constant_at_most_total s t y)

-- ---- W = 1

module _ (s : Shape) (sh : Shaped s) (w : Weights) (ag : Agrees s w) (one : w.full_weight ≡ 1) where
  -- each train's choice with weight 1
  abbrev pub one_plan : ℕ → ℕ
  one_plan i = first_nonzero (s.size i) (w.choice i)

  pub one_choice : (i : ℕ) → i < s.trains → (one_plan i < s.size i) × (w.choice i (one_plan i) ≡ 1)
  one_choice i h = nonzero_is_1 (s.size i) (w.choice i) (ag.trains i h ∙ one)

  pub one_whole : Whole s w one_plan
  one_whole = record { there = λ i h. (one_choice i h).0; all = λ i h. (one_choice i h).1 ∙ sym one }

  pub one_entry : (k : ℕ) → k < s.pairs → w.pair k (one_plan (s.first k)) (one_plan (s.second k)) ≡ 1
  one_entry k h = plan_entry s sh w ag one_plan one_whole k h ∙ one

  -- any others with weight 1 are the same
  pub one_only : (x : ℕ → ℕ) → ((i : ℕ) → i < s.trains → x i < s.size i) → ((i : ℕ) → i < s.trains → w.choice i (x i) ≡ 1) → (i : ℕ) → i < s.trains → x i ≡ one_plan i
  one_only x p on i h = go (ℕ_discrete (x i) (one_plan i))
    where
      go : Dec (x i ≡ one_plan i) → x i ≡ one_plan i
      go (yes e) = e
      go (no d) = absurd (omega (arith, sum_apart (s.size i) (x i) (one_plan i) (w.choice i) (p i h) (one_choice i h).0 d, on i h, (one_choice i h).1, ag.trains i h, one))

  -- it has no forbidden entry, since weights spare those
  pub one_is_plan : Spares s w → IsPlan s one_plan
  one_is_plan sp =
      record {
        below = λ i h. (one_choice i h).0;
        choices = λ i h. open_weight (s.choice_open i (one_plan i)) (λ f. sp.choices i (one_plan i) h (one_choice i h).0 f) (one_choice i h).1;
        entries = λ k h.
            open_weight (s.entry_open k (one_plan (s.first k)) (one_plan (s.second k)))
            (λ f. sp.entries k (one_plan (s.first k)) (one_plan (s.second k)) h (one_choice (s.first k) (omega (arith, sh.ascends k h, sh.inside k h))).0 (one_choice (s.second k) (sh.inside k h)).0 f)
            (one_entry k h);
      }
    where
      open_weight : (o : Bool) {v : ℕ} → (o ≡ false → v ≡ 0) → v ≡ 1 → o ≡ true
      open_weight true h e = refl
      open_weight false h e = absurd (omega (arith, h refl, e))

  -- 'the plan with weight 1 everywhere has the least total', where the ceiling is reached
  pub one_least : (t : Costs) → weighted s w t ≡ w.full_weight * t.constant → (y : ℕ → ℕ) → total s t one_plan ≤ total s t y
  one_least t e = whole_least s sh w ag one_plan one_whole t (omega (arith, one)) e
