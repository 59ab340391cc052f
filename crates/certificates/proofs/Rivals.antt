-- Two tables that give every plan the same total have the same weighted total, for all weights whose sums agree. So a certificate bounds every
-- rewriting of the tables. The weighted total of one table is a sum of totals of plans that differ from one plan at one or two trains.
use mathlib.Core.Path.{◌≡◌, refl, sym, ap, ap₂, ◌∙◌}
use mathlib.Core.Bool.{cond}
use Prim.Native.Nat.{ℕ, ◌+◌, ◌*◌, ◌≤◌, ◌<◌}
use native.Mathlib.Nat.{mul-add, mul_left_comm}
use native.Mathlib.Decide.{ℕ_discrete}
use native.Mathlib.Omega.{arith}
use lib.Dec.{eqb}
use Rattle.theory.specs.Sum.{sum, update}
use Rattle.theory.proofs.Sum.{sum_cong, sum-add, sum-scale, sum-scale_right, sum_const, sum_swap, sum_one, sum_two, update_same, update_other}
use Rattle.tables.specs.Plans.{Shape, Costs, IsPlan, Open, choice_total, pair_total, total}
use Rattle.tables.proofs.Plans.{Shaped, open_plan}
use Rattle.certificates.specs.Certify.{Weights, over_choices, over_pairs, weighted}
use Rattle.certificates.specs.Rival.{scaled}
use Rattle.certificates.proofs.Agrees.{Agrees}

-- every train at choice 0
abbrev base : ℕ → ℕ
base i = 0

-- base with one train changed, and with two
abbrev one : ℕ → ℕ → ℕ → ℕ
one i a = update base i a

abbrev two : ℕ → ℕ → ℕ → ℕ → ℕ → ℕ
two i a j b = update (one i a) j b

-- away from i, the second change is all there is
two_away : (i a j b l : ℕ) → (l ≡ i → ⊥) → two i a j b l ≡ one j b l
unfolding update
two_away i a j b l e = ap (cond (eqb l j) b) (update_other base i a l e)

-- the plans that differ from base at one or two trains
module _ (s : Shape) (sh : Shaped s) (t : Costs) where
  one_train : (i a : ℕ) → i < s.trains → total s t (one i a) + t.choice i 0 + pair_total s t base ≡ total s t base + t.choice i a + pair_total s t (one i a)
  unfolding total choice_total
  one_train i a h =
      omega (
        arith,
        sum_one s.trains i (λ l. t.choice l (one i a l)) (λ l. t.choice l 0) h (λ l r e. ap (t.choice l) (update_other base i a l e)),
        ap (t.choice i) (update_same base i a i refl),
      )

  choices_two : (i a j b : ℕ) → (i ≡ j → ⊥)
      → choice_total s t (two i a j b) + choice_total s t base ≡ choice_total s t (one i a) + choice_total s t (one j b)
  unfolding choice_total
  choices_two i a j b d =
      sym (sum-add s.trains (λ l. t.choice l (two i a j b l)) (λ l. t.choice l 0))
      ∙ sum_cong s.trains (λ l. t.choice l (two i a j b l) + t.choice l 0) (λ l. t.choice l (one i a l) + t.choice l (one j b l)) (λ l r. at l (ℕ_discrete l i))
      ∙ sum-add s.trains (λ l. t.choice l (one i a l)) (λ l. t.choice l (one j b l))
    where
      at : (l : ℕ) → Dec (l ≡ i) → t.choice l (two i a j b l) + t.choice l 0 ≡ t.choice l (one i a l) + t.choice l (one j b l)
      at l (yes e) =
          let f : l ≡ j → ⊥ = λ g. d (sym e ∙ g) in
          omega (arith, ap (t.choice l) (update_other (one i a) j b l f), ap (t.choice l) (update_other base j b l f))
      at l (no e) = omega (arith, ap (t.choice l) (two_away i a j b l e), ap (t.choice l) (update_other base i a l e))

  pair_at_lem : (ℕ → ℕ) → ℕ → ℕ
  pair_at_lem x l = t.pair l (x (s.first l)) (x (s.second l))

  pair_cong : (x y : ℕ → ℕ) (l : ℕ) → x (s.first l) ≡ y (s.first l) → x (s.second l) ≡ y (s.second l) → pair_at_lem x l ≡ pair_at_lem y l
  unfolding pair_at_lem
  pair_cong x y l e f = ap₂ (t.pair l) e f

  module _ (k a b : ℕ) (inside : k < s.pairs) where
    -- a pair that is not k is touched by at most one of k's trains
    other_pair : (l : ℕ) → l < s.pairs → (l ≡ k → ⊥)
        → pair_at_lem (two (s.first k) a (s.second k) b) l + pair_at_lem base l ≡ pair_at_lem (one (s.first k) a) l + pair_at_lem (one (s.second k) b) l
    other_pair l r d = by_first (ℕ_discrete (s.first l) (s.first k)) (ℕ_discrete (s.second l) (s.first k))
      where
        x : ℕ → ℕ
        x = two (s.first k) a (s.second k) b

        -- untouched by k's second train
        plain : (s.first l ≡ s.second k → ⊥) → (s.second l ≡ s.second k → ⊥) → pair_at_lem x l + pair_at_lem base l ≡ pair_at_lem (one (s.first k) a) l + pair_at_lem (one (s.second k) b) l
        plain e f = omega (
          arith,
          pair_cong x (one (s.first k) a) l (update_other (one (s.first k) a) (s.second k) b (s.first l) e) (update_other (one (s.first k) a) (s.second k) b (s.second l) f),
          pair_cong (one (s.second k) b) base l (update_other base (s.second k) b (s.first l) e) (update_other base (s.second k) b (s.second l) f),
        )

        -- untouched by k's first train
        away : (s.first l ≡ s.first k → ⊥) → (s.second l ≡ s.first k → ⊥) → pair_at_lem x l + pair_at_lem base l ≡ pair_at_lem (one (s.first k) a) l + pair_at_lem (one (s.second k) b) l
        away e f = omega (
          arith,
          pair_cong x (one (s.second k) b) l (two_away (s.first k) a (s.second k) b (s.first l) e) (two_away (s.first k) a (s.second k) b (s.second l) f),
          pair_cong (one (s.first k) a) base l (update_other base (s.first k) a (s.first l) e) (update_other base (s.first k) a (s.second l) f),
        )

        by_first : Dec (s.first l ≡ s.first k) → Dec (s.second l ≡ s.first k) → pair_at_lem x l + pair_at_lem base l ≡ pair_at_lem (one (s.first k) a) l + pair_at_lem (one (s.second k) b) l
        by_first (yes e) f = plain (λ g. omega (arith, sh.ascends k inside)) (λ g. d (sh.apart l k r inside e g))
        by_first (no e) (yes f) = plain (λ g. omega (arith, sh.ascends l r, sh.ascends k inside)) (λ g. omega (arith, sh.ascends k inside))
        by_first (no e) (no f) = away e f

    pairs_two : pair_total s t (two (s.first k) a (s.second k) b) + pair_total s t base + t.pair k a 0 + t.pair k 0 b
        ≡ pair_total s t (one (s.first k) a) + pair_total s t (one (s.second k) b) + t.pair k a b + t.pair k 0 0
    unfolding pair_total pair_at_lem
    pairs_two =
        omega (
          arith,
          sum_one s.pairs k (λ l. pair_at_lem x l + pair_at_lem base l) (λ l. pair_at_lem y l + pair_at_lem z l) inside other_pair,
          sum-add s.pairs (pair_at_lem x) (pair_at_lem base),
          sum-add s.pairs (pair_at_lem y) (pair_at_lem z),
          ap₂ (t.pair k) (update_other y (s.second k) b (s.first k) (λ e. d e) ∙ update_same base (s.first k) a (s.first k) refl) (update_same y (s.second k) b (s.second k) refl),
          ap₂ (t.pair k) (update_same base (s.first k) a (s.first k) refl) (update_other base (s.first k) a (s.second k) (λ e. d (sym e))),
          ap₂ (t.pair k) (update_other base (s.second k) b (s.first k) d) (update_same base (s.second k) b (s.second k) refl),
        )
      where
        d : s.first k ≡ s.second k → ⊥
        d e = omega (arith, sh.ascends k inside)

        x : ℕ → ℕ
        x = two (s.first k) a (s.second k) b

        y : ℕ → ℕ
        y = one (s.first k) a

        z : ℕ → ℕ
        z = one (s.second k) b

    two_trains : total s t (two (s.first k) a (s.second k) b) + total s t base + t.pair k a 0 + t.pair k 0 b
        ≡ total s t (one (s.first k) a) + total s t (one (s.second k) b) + t.pair k a b + t.pair k 0 0
    unfolding total
    two_trains = omega (arith, pairs_two, choices_two (s.first k) a (s.second k) b (λ e. omega (arith, sh.ascends k inside)))

-- the weighted sums
module _ (s : Shape) (w : Weights) where
  choices_cong : (f g : ℕ → ℕ → ℕ) → ((i a : ℕ) → i < s.trains → a < s.size i → f i a ≡ g i a) → over_choices s w f ≡ over_choices s w g
  unfolding over_choices
  choices_cong f g h = sum_cong s.trains _ _ (λ i p. sum_cong (s.size i) _ _ (λ a q. ap (λ (v : ℕ). w.choice i a * v) (h i a p q)))

  pairs_cong : (f g : ℕ → ℕ → ℕ → ℕ)
      → ((k a b : ℕ) → k < s.pairs → a < s.size (s.first k) → b < s.size (s.second k) → f k a b ≡ g k a b) → over_pairs s w f ≡ over_pairs s w g
  unfolding over_pairs
  pairs_cong f g h =
      sum_cong s.pairs _ _ (λ k p. sum_cong (s.size (s.first k)) _ _ (λ a q. sum_cong (s.size (s.second k)) _ _ (λ b r. ap (λ (v : ℕ). w.pair k a b * v) (h k a b p q r))))

  pub choices_add : (f g : ℕ → ℕ → ℕ) → over_choices s w (λ i a. f i a + g i a) ≡ over_choices s w f + over_choices s w g
  unfolding over_choices
  choices_add f g =
      sum_cong s.trains _ _ (λ i p. sum_cong (s.size i) _ _ (λ a q. mul-add (w.choice i a) (f i a) (g i a)) ∙ sum-add (s.size i) (λ a. w.choice i a * f i a) (λ a. w.choice i a * g i a))
      ∙ sum-add s.trains (λ i. sum (s.size i) (λ a. w.choice i a * f i a)) (λ i. sum (s.size i) (λ a. w.choice i a * g i a))

  pub pairs-add : (f g : ℕ → ℕ → ℕ → ℕ) → over_pairs s w (λ k a b. f k a b + g k a b) ≡ over_pairs s w f + over_pairs s w g
  unfolding over_pairs
  pairs-add f g =
      sum_cong s.pairs _ _ (λ k p.
      sum_cong (s.size (s.first k)) _ _ (λ a q.
      sum_cong (s.size (s.second k)) _ _ (λ b r. mul-add (w.pair k a b) (f k a b) (g k a b))
      ∙ sum-add (s.size (s.second k)) (λ b. w.pair k a b * f k a b) (λ b. w.pair k a b * g k a b))
      ∙ sum-add (s.size (s.first k)) (λ a. sum (s.size (s.second k)) (λ b. w.pair k a b * f k a b)) (λ a. sum (s.size (s.second k)) (λ b. w.pair k a b * g k a b)))
      ∙ sum-add s.pairs (λ k. sum (s.size (s.first k)) (λ a. sum (s.size (s.second k)) (λ b. w.pair k a b * f k a b))) (λ k. sum (s.size (s.first k)) (λ a. sum (s.size (s.second k)) (λ b. w.pair k a b * g k a b)))

  pub choices_scale : (d : ℕ) (f : ℕ → ℕ → ℕ) → over_choices s w (λ i a. d * f i a) ≡ d * over_choices s w f
  unfolding over_choices
  choices_scale d f =
      sum_cong s.trains _ _ (λ i p. sum_cong (s.size i) _ _ (λ a q. mul_left_comm (w.choice i a) d (f i a)) ∙ sum-scale (s.size i) d (λ a. w.choice i a * f i a))
      ∙ sum-scale s.trains d (λ i. sum (s.size i) (λ a. w.choice i a * f i a))

  pub pairs-scale : (d : ℕ) (f : ℕ → ℕ → ℕ → ℕ) → over_pairs s w (λ k a b. d * f k a b) ≡ d * over_pairs s w f
  unfolding over_pairs
  pairs-scale d f =
      sum_cong s.pairs _ _ (λ k p.
      sum_cong (s.size (s.first k)) _ _ (λ a q.
      sum_cong (s.size (s.second k)) _ _ (λ b r. mul_left_comm (w.pair k a b) d (f k a b)) ∙ sum-scale (s.size (s.second k)) d (λ b. w.pair k a b * f k a b))
      ∙ sum-scale (s.size (s.first k)) d (λ a. sum (s.size (s.second k)) (λ b. w.pair k a b * f k a b)))
      ∙ sum-scale s.pairs d (λ k. sum (s.size (s.first k)) (λ a. sum (s.size (s.second k)) (λ b. w.pair k a b * f k a b)))

  -- a sum over the pairs under the sum over the choices
  pub choices_sum : (m : ℕ) (f : ℕ → ℕ → ℕ → ℕ) → over_choices s w (λ i a. sum m (λ k. f k i a)) ≡ sum m (λ k. over_choices s w (λ i a. f k i a))
  unfolding over_choices
  choices_sum m f =
      sum_cong s.trains _ _ (λ i p.
      sum_cong (s.size i) _ _ (λ a q. sym (sum-scale m (w.choice i a) (λ k. f k i a)))
      ∙ sum_swap (s.size i) m (λ a k. w.choice i a * f k i a))
      ∙ sum_swap s.trains m (λ i k. sum (s.size i) (λ a. w.choice i a * f k i a))

  module _ (ag : Agrees s w) where
    -- one train's weights, over what does not depend on the choice
    train_const : (i c : ℕ) → i < s.trains → sum (s.size i) (λ a. w.choice i a * c) ≡ w.full_weight * c
    train_const i c h = sum-scale_right (s.size i) c (λ a. w.choice i a) ∙ ap (λ (v : ℕ). v * c) (ag.trains i h)

    pub choices_const : (f : ℕ → ℕ) → over_choices s w (λ i a. f i) ≡ w.full_weight * sum s.trains f
    unfolding over_choices
    choices_const f = sum_cong s.trains _ _ (λ i h. train_const i (f i) h) ∙ sum-scale s.trains w.full_weight f

    -- the sum over a pair's choices of what depends on one of them
    pub by_rows : (f : ℕ → ℕ → ℕ) → over_pairs s w (λ k a b. f k a) ≡ sum s.pairs (λ k. sum (s.size (s.first k)) (λ a. w.choice (s.first k) a * f k a))
    unfolding over_pairs
    by_rows f =
        sum_cong s.pairs _ _ (λ k p. sum_cong (s.size (s.first k)) _ _ (λ a q.
        sum-scale_right (s.size (s.second k)) (f k a) (λ b. w.pair k a b) ∙ ap (λ (v : ℕ). v * f k a) (ag.rows k a p q)))

    pub by_columns : (f : ℕ → ℕ → ℕ) → over_pairs s w (λ k a b. f k b) ≡ sum s.pairs (λ k. sum (s.size (s.second k)) (λ b. w.choice (s.second k) b * f k b))
    unfolding over_pairs
    by_columns f =
        sum_cong s.pairs _ _ (λ k p.
        sum_swap (s.size (s.first k)) (s.size (s.second k)) (λ a b. w.pair k a b * f k b)
        ∙ sum_cong (s.size (s.second k)) _ _ (λ b q.
        sum-scale_right (s.size (s.first k)) (f k b) (λ a. w.pair k a b) ∙ ap (λ (v : ℕ). v * f k b) (ag.columns k b p q)))

    module _ (sh : Shaped s) where
      first_inside : (k : ℕ) → k < s.pairs → s.first k < s.trains
      first_inside k h = omega (arith, sh.ascends k h, sh.inside k h)

      pairs_const : (f : ℕ → ℕ) → over_pairs s w (λ k a b. f k) ≡ w.full_weight * sum s.pairs f
      pairs_const f =
          by_rows (λ k a. f k) ∙ sum_cong s.pairs _ _ (λ k h. train_const (s.first k) (f k) (first_inside k h)) ∙ sum-scale s.pairs w.full_weight f

-- the weighted total, by the totals of plans that differ from base at one or two trains
module _ (s : Shape) (sh : Shaped s) (w : Weights) (ag : Agrees s w) (t : Costs) where
  -- the rows and the columns of one pair's table through base
  row-sum : ℕ → ℕ
  row-sum k = sum (s.size (s.first k)) (λ a. w.choice (s.first k) a * t.pair k a 0)

  column_sum : ℕ → ℕ
  column_sum k = sum (s.size (s.second k)) (λ b. w.choice (s.second k) b * t.pair k 0 b)

  -- one pair's costs over all plans that differ from base at one train
  pair_over_ones : (k : ℕ) → k < s.pairs
      → over_choices s w (λ i a. pair_at_lem s sh t (one i a) k) + w.full_weight * t.pair k 0 0 + w.full_weight * t.pair k 0 0
      ≡ s.trains * (w.full_weight * t.pair k 0 0) + row-sum k + column_sum k
  unfolding over_choices row-sum column_sum pair_at_lem
  pair_over_ones k h =
      omega (
        arith,
        sum_two s.trains (s.first k) (s.second k) at_train (λ i. w.full_weight * t.pair k 0 0) (first_inside s w ag sh k h) (sh.inside k h) apart elsewhere,
        sum_const s.trains (w.full_weight * t.pair k 0 0),
        at_first,
        at_second,
      )
    where
      apart : s.first k ≡ s.second k → ⊥
      apart e = omega (arith, sh.ascends k h)

      at_train : ℕ → ℕ
      at_train i = sum (s.size i) (λ a. w.choice i a * t.pair k (one i a (s.first k)) (one i a (s.second k)))

      elsewhere : (i : ℕ) → i < s.trains → (i ≡ s.first k → ⊥) → (i ≡ s.second k → ⊥) → at_train i ≡ w.full_weight * t.pair k 0 0
      elsewhere i l e f =
          sum_cong (s.size i) _ _ (λ a q. ap (λ (v : ℕ). w.choice i a * v)
          (ap₂ (t.pair k) (update_other base i a (s.first k) (λ g. e (sym g))) (update_other base i a (s.second k) (λ g. f (sym g)))))
          ∙ train_const s w ag i (t.pair k 0 0) l

      at_first : at_train (s.first k) ≡ sum (s.size (s.first k)) (λ a. w.choice (s.first k) a * t.pair k a 0)
      at_first = sum_cong (s.size (s.first k)) _ _ (λ a q. ap (λ (v : ℕ). w.choice (s.first k) a * v)
          (ap₂ (t.pair k) (update_same base (s.first k) a (s.first k) refl) (update_other base (s.first k) a (s.second k) (λ g. apart (sym g)))))

      at_second : at_train (s.second k) ≡ sum (s.size (s.second k)) (λ b. w.choice (s.second k) b * t.pair k 0 b)
      at_second = sum_cong (s.size (s.second k)) _ _ (λ b q. ap (λ (v : ℕ). w.choice (s.second k) b * v)
          (ap₂ (t.pair k) (update_other base (s.second k) b (s.first k) apart) (update_same base (s.second k) b (s.second k) refl)))

  -- all pairs' costs over all plans that differ from base at one train
  pairs_over_ones : over_choices s w (λ i a. pair_total s t (one i a)) + w.full_weight * pair_total s t base + w.full_weight * pair_total s t base
      ≡ s.trains * (w.full_weight * pair_total s t base) + sum s.pairs row-sum + sum s.pairs column_sum
  unfolding pair_total pair_at_lem
  pairs_over_ones =
      let f : ℕ → ℕ = λ k. over_choices s w (λ i a. pair_at_lem s sh t (one i a) k) in
      let g : ℕ → ℕ = λ k. w.full_weight * t.pair k 0 0 in
      let h : ℕ → ℕ = λ k. s.trains * (w.full_weight * t.pair k 0 0) in
      omega (
        arith,
        choices_sum s w s.pairs (λ k i a. pair_at_lem s sh t (one i a) k),
        sum-scale s.pairs w.full_weight (λ k. t.pair k 0 0),
        sum-scale s.pairs s.trains g,
        ap (λ (v : ℕ). s.trains * v) (sum-scale s.pairs w.full_weight (λ k. t.pair k 0 0)),
        sum-add s.pairs (λ k. f k + g k) g,
        sum-add s.pairs f g,
        sum-add s.pairs (λ k. h k + row-sum k) column_sum,
        sum-add s.pairs h row-sum,
        sum_cong s.pairs (λ k. f k + g k + g k) (λ k. h k + row-sum k + column_sum k) pair_over_ones,
      )

  -- the sums of totals that the weighted total comes down to
  ones : ℕ
  ones = over_choices s w (λ i a. total s t (one i a))

  -- the one-train comparison, weighted
  ones_sum : ones + w.full_weight * choice_total s t base + s.trains * (w.full_weight * pair_total s t base)
      ≡ s.trains * (w.full_weight * total s t base) + over_choices s w t.choice + over_choices s w (λ i a. pair_total s t (one i a))
  unfolding ones choice_total
  ones_sum =
      omega (
        arith,
        choices_cong s w _ _ (λ i a p q. one_train s sh t i a p),
        choices_add s w (λ i a. total s t (one i a) + t.choice i 0) (λ i a. pair_total s t base),
        choices_add s w (λ i a. total s t (one i a)) (λ i a. t.choice i 0),
        choices_add s w (λ i a. total s t base + t.choice i a) (λ i a. pair_total s t (one i a)),
        choices_add s w (λ i a. total s t base) t.choice,
        choices_const s w ag (λ i. t.choice i 0),
        same (pair_total s t base),
        same (total s t base),
      )
    where
      same : (c : ℕ) → over_choices s w (λ i a. c) ≡ s.trains * (w.full_weight * c)
      same c = choices_const s w ag (λ i. c) ∙ ap (λ (v : ℕ). w.full_weight * v) (sum_const s.trains c) ∙ mul_left_comm w.full_weight s.trains c

  -- the two-train comparison, weighted
  twos_sum : over_pairs s w (λ k a b. total s t (two (s.first k) a (s.second k) b)) + over_pairs s w (λ k a b. total s t base)
      + sum s.pairs row-sum + sum s.pairs column_sum
      ≡ over_pairs s w (λ k a b. total s t (one (s.first k) a)) + over_pairs s w (λ k a b. total s t (one (s.second k) b))
      + over_pairs s w t.pair + w.full_weight * pair_total s t base
  unfolding row-sum column_sum pair_total
  twos_sum =
      let x : ℕ → ℕ → ℕ → ℕ = λ k a b. total s t (two (s.first k) a (s.second k) b) in
      let z : ℕ → ℕ → ℕ → ℕ = λ k a b. total s t base in
      let y : ℕ → ℕ → ℕ → ℕ = λ k a b. total s t (one (s.first k) a) in
      let v : ℕ → ℕ → ℕ → ℕ = λ k a b. total s t (one (s.second k) b) in
      omega (
        arith,
        pairs_cong s w (λ k a b. x k a b + z k a b + t.pair k a 0 + t.pair k 0 b) (λ k a b. y k a b + v k a b + t.pair k a b + t.pair k 0 0) (λ k a b p q r. two_trains s sh t k a b p),
        pairs-add s w (λ k a b. x k a b + z k a b + t.pair k a 0) (λ k a b. t.pair k 0 b),
        pairs-add s w (λ k a b. x k a b + z k a b) (λ k a b. t.pair k a 0),
        pairs-add s w x z,
        pairs-add s w (λ k a b. y k a b + v k a b + t.pair k a b) (λ k a b. t.pair k 0 0),
        pairs-add s w (λ k a b. y k a b + v k a b) t.pair,
        pairs-add s w y v,
        by_rows s w ag (λ k a. t.pair k a 0),
        by_columns s w ag (λ k b. t.pair k 0 b),
        pairs_const s w ag sh (λ k. t.pair k 0 0),
      )

  by_totals : weighted s w t
      + over_pairs s w (λ k a b. total s t (one (s.first k) a)) + over_pairs s w (λ k a b. total s t (one (s.second k) b))
      + s.trains * (w.full_weight * total s t base)
      ≡ over_choices s w (λ i a. total s t (one i a)) + over_pairs s w (λ k a b. total s t (two (s.first k) a (s.second k) b))
      + over_pairs s w (λ k a b. total s t base) + w.full_weight * total s t base
  unfolding weighted ones total
  by_totals =
      omega (
        arith,
        ones_sum,
        twos_sum,
        pairs_over_ones,
        mul-add w.full_weight (t.constant + choice_total s t base) (pair_total s t base),
        mul-add w.full_weight t.constant (choice_total s t base),
      )

module _ (s : Shape) (sh : Shaped s) (o : Open s) where
  base_plan : IsPlan s base
  base_plan = open_plan sh o base sh.filled

  update_plan : (x : ℕ → ℕ) (i a : ℕ) → IsPlan s x → a < s.size i → IsPlan s (update x i a)
  update_plan x i a p h = open_plan sh o (update x i a) (λ j q. by j q (ℕ_discrete j i))
    where
      by : (j : ℕ) → j < s.trains → Dec (j ≡ i) → update x i a j < s.size j
      by j q (yes e) = omega (arith, update_same x i a j e, ap s.size e)
      by j q (no e) = omega (arith, update_other x i a j e, p.below j q)

-- the same total for every plan: the same weighted total
module _ (s : Shape) (sh : Shaped s) (o : Open s) (w : Weights) (ag : Agrees s w) (t u : Costs) (same : (x : ℕ → ℕ) → IsPlan s x → total s t x ≡ total s u x) where
  pub same_weighted : weighted s w t ≡ weighted s w u
  same_weighted =
      omega (
        arith,
        by_totals s sh w ag t,
        by_totals s sh w ag u,
        pairs_cong s w _ _ (λ k a b p q r. same (one (s.first k) a) (update_plan s sh o base (s.first k) a (base_plan s sh o) q)),
        pairs_cong s w _ _ (λ k a b p q r. same (one (s.second k) b) (update_plan s sh o base (s.second k) b (base_plan s sh o) r)),
        choices_cong s w _ _ (λ i a p q. same (one i a) (update_plan s sh o base i a (base_plan s sh o) q)),
        pairs_cong s w _ _ (λ k a b p q r. same (two (s.first k) a (s.second k) b) (update_plan s sh o (one (s.first k) a) (s.second k) b (update_plan s sh o base (s.first k) a (base_plan s sh o) q) r)),
        pairs_cong s w _ _ (λ k a b p q r. same base (base_plan s sh o)),
        ap (λ (v : ℕ). w.full_weight * v) (same base (base_plan s sh o)),
        ap (λ (v : ℕ). s.trains * (w.full_weight * v)) (same base (base_plan s sh o)),
      )

module _ (s : Shape) (d : ℕ) (t : Costs) where
  total-scaled : (x : ℕ → ℕ) → total s (scaled d t) x ≡ d * total s t x
  unfolding total choice_total pair_total
  total-scaled x =
      omega (
        arith,
        sum-scale s.trains d (λ i. t.choice i (x i)),
        sum-scale s.pairs d (λ k. t.pair k (x (s.first k)) (x (s.second k))),
        mul-add d (t.constant + choice_total s t x) (pair_total s t x),
        mul-add d t.constant (choice_total s t x),
      )

  pub weighted-scaled : (w : Weights) → weighted s w (scaled d t) ≡ d * weighted s w t
  unfolding weighted
  weighted-scaled w =
      omega (
        arith,
        mul_left_comm w.full_weight d t.constant,
        choices_scale s w d t.choice,
        pairs-scale s w d t.pair,
        mul-add d (w.full_weight * t.constant + over_choices s w t.choice) (over_pairs s w t.pair),
        mul-add d (w.full_weight * t.constant) (over_choices s w t.choice),
      )

-- the constant raised by e
abbrev raised : ℕ → Costs → Costs
raised e t = record { constant = t.constant + e; choice = t.choice; pair = t.pair }

-- a rival whose costs are the naturals u over d, with a constant less e over d, and whose totals are t's: W times its constant is at most E
pub rival_bound : (s : Shape) → Shaped s → Open s → (w : Weights) → Agrees s w → (d e : ℕ) (t u : Costs)
    → ((x : ℕ → ℕ) → IsPlan s x → d * total s t x + e ≡ total s u x) → w.full_weight * u.constant ≤ d * weighted s w t + w.full_weight * e
unfolding weighted total choice_total pair_total
rival_bound s sh o w ag d e t u same =
    omega (
      arith,
      weighted-scaled s d t w,
      mul-add w.full_weight (d * t.constant) e,
      same_weighted s sh o w ag (raised e (scaled d t)) u (λ x p. omega (arith, total-scaled s d t x, same x p)),
    )
