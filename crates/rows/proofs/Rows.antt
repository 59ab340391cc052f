-- A row of sums holds what a train's choices come to over the pairs below some pair: the pairs that a link skips add nothing.
use mathlib.Core.Path.{◌≡◌, refl, ap, ◌∙◌}
use mathlib.Core.Bool.{cond}
use mathlib.Core.List.{List, []}
use mathlib.Core.Logic.{inl, inr, ⊎_elim, dite}
use Prim.Native.Nat.{ℕ, zero, suc, ◌+◌, ◌*◌, ◌-◌, ◌^◌, ◌<◌, ◌≤◌}
use native.Mathlib.Nat.{eq-or-lt_of_le}
use native.Mathlib.Decide.{ℕ_discrete, dec_lt}
use native.Mathlib.Omega.{arith}
use lib.Dec.{eqb}
use lib.ListN.{length, get_or, set, length-set}
use lib.Seq.{get_or-set_same, get_or-set_other}
use borrow.Author.Tests.{eq-eqb, ne_eqb}
use Rattle.theory.specs.Sum.{sum}
use Rattle.theory.proofs.Sum.{sum_none, sum_more, sum_cong, sum_most}
use Rattle.tables.specs.Block.{max_trains, max_choices, max_pairs}
use Rattle.tables.specs.Plans.{Shape, Costs, choices_of}
use Rattle.rows.specs.Walled.{wall}
use Rattle.rows.specs.Limits.{Walkable, Limited}
use Rattle.rows.specs.Added.{row_added, sum_below}
use Rattle.rows.specs.declared.table.Table.{Table}
use Rattle.rows.specs.Sums.{Sums, Summed, Steady, Carrying}
use Rattle.rows.specs.Links.{own_row, pair_row, Back, Begin}
use Rattle.rows.specs.Table.{sum_at, cost_at, begin_of, Owned}

-- terms that are 0
sum_gap : (f : ℕ → ℕ) (k d : ℕ) → ((i : ℕ) → k ≤ i → i < k + d → f i ≡ 0) → sum (k + d) f ≡ sum k f
sum_gap f k zero h = let e : k + 0 ≡ k = omega arith in rw e
sum_gap f k (suc d) h =
    let e : k + suc d ≡ (k + d) + 1 = omega arith in
    rw e (omega (arith, sum_more (k + d) f, h (k + d) (omega arith) (omega arith), sum_gap f k d (λ i p q. h i p (omega arith))))

-- from k to l nothing is added
sum_skip : (f : ℕ → ℕ) (k l : ℕ) → k ≤ l → ((i : ℕ) → k ≤ i → i < l → f i ≡ 0) → sum l f ≡ sum k f
sum_skip f k l h g = let e : k + (l - k) ≡ l = omega arith in rw e at (sum_gap f k (l - k) (λ i p q. g i p (omega arith)))

module _ (s : Shape) where
  -- a row stands before that of pair k
  pub back_low : (j k p : ℕ) → j < max_trains → Back s j k p → p < pair_row k
  back_low j k p h (inl o) = omega (arith, o.place)
  back_low j k p h (inr w) = omega (arith, w.place, w.low)

  -- first pairs ascend
  pub begin_next : (t k l : ℕ) → Begin s t k → Begin s (t + 1) l → k ≤ l
  begin_next t k l p q =
      dite (dec_lt l k)
      (λ h. absurd (omega (arith, p.before l h, q.after l (omega arith) (omega (arith, p.high)))))
      (λ m. omega arith)

module _ (s : Shape) (c : Costs) where
  skipped_adds : (x : ℕ → ℕ) (j a i : ℕ) → (s.second i ≡ j → ⊥) → row_added s c x j a i ≡ 0
  skipped_adds x j a i n = rw (ne_eqb (s.second i) j n)

  -- what a row holds
  pub back_sum : (x : ℕ → ℕ) (q : List (List ℕ)) (f j k p a : ℕ) → Summed s c x q f → Back s j k p → k ≤ f → j < s.trains → a < max_choices
      → sum_at q p a ≡ sum_below s c x j a k
  back_sum x q f j k p a u (inl o) h g r =
      rw o.place
      (omega (arith, u.own j a g r, sum_none (row_added s c x j a), sum_skip (row_added s c x j a) 0 k (omega arith) (λ i d e. skipped_adds x j a i (o.none i e))))
  back_sum x q f j k p a u (inr w) h g r =
      rw w.place
      (omega (
        arith,
        rw w.here at (u.rows w.pair a (omega (arith, w.low)) r),
        sum_skip (row_added s c x j a) (w.pair + 1) k (omega (arith, w.low)) (λ i d e. skipped_adds x j a i (w.skipped i (omega arith) e)),
      ))

  -- the sums look at decided trains only
  pub summed_cong : (x y : ℕ → ℕ) (q : List (List ℕ)) (t f : ℕ) → Begin s t f → ((i : ℕ) → i < t → x i ≡ y i) → Summed s c x q f → Summed s c y q f
  summed_cong x y q t f g h u =
      record {
        whole = u.whole;
        own = u.own;
        rows = λ k a p r.
            let j = s.second k in
            omega (
              arith,
              u.rows k a p r,
              sum_cong (k + 1) (row_added s c x j a) (row_added s c y j a)
                  (λ i d. ap (λ (v : ℕ). cond (eqb (s.second i) j) (c.pair i v a) 0) (h (s.first i) (g.before i (omega arith)))),
            );
      }

  pub summed_steady : (x : ℕ → ℕ) (q q₁ : List (List ℕ)) (f : ℕ) → s.trains ≤ max_trains → Steady f q q₁ → Summed s c x q f → Summed s c x q₁ f
  summed_steady x q q₁ f n w u =
      record {
        whole = w.same ∙ u.whole;
        own = λ j a h r. ap (λ (row : List ℕ). get_or row a 0) (w.stays (own_row j) (omega arith)) ∙ u.own j a h r;
        rows = λ k a h r. ap (λ (row : List ℕ). get_or row a 0) (w.stays (pair_row k) (omega arith)) ∙ u.rows k a h r;
      }

pub steady_refl : (f : ℕ) (q : List (List ℕ)) → Steady f q q
steady_refl f q = record { same = refl; stays = λ p h. refl }

pub steady_trans : {f : ℕ} {q r s : List (List ℕ)} → Steady f q r → Steady f r s → Steady f q s
steady_trans p q = record { same = q.same ∙ p.same; stays = λ i h. q.stays i h ∙ p.stays i h }

pub steady_less : {f g : ℕ} {q r : List (List ℕ)} → f ≤ g → Steady g q r → Steady f q r
steady_less l p = record { same = p.same; stays = λ i h. p.stays i (omega arith) }

-- before the first train no pair is begun
pub summed_start : {s : Shape} {c : Costs} (x : ℕ → ℕ) {q : List (List ℕ)} {f : ℕ} → Begin s 0 f → Owned s c q → Summed s c x q f
summed_start x g o = record { whole = o.whole; own = o.own; rows = λ k a h r. absurd (omega (arith, g.before k h)) }

-- the row of pair k is written: the rows before stay
pub steady_set : (f k : ℕ) (q : List (List ℕ)) (row : List ℕ) → f ≤ k → Steady f q (set q (pair_row k) row)
steady_set f k q row h = record { same = length-set q (pair_row k) row; stays = λ p r. get_or-set_other q (pair_row k) p row [] (λ e. omega arith) }

-- the next pair's row is summed
pub summed_more : (s : Shape) (c : Costs) (l : List (List ℕ)) (x : ℕ → ℕ) (q : List (List ℕ)) (row : List ℕ) (k e p : ℕ) → s.trains ≤ max_trains → k < max_pairs → s.second k < s.trains → Summed s c x q k
    → Back s (s.second k) k p → x (s.first k) ≡ e → ((a : ℕ) → a < max_choices → cost_at l k e a ≡ c.pair k e a)
    → Sums (λ a. sum_at q p a + cost_at l k e a) row → Summed s c x (set q (pair_row k) row) (k + 1)
summed_more s c l x q row k e p n m j u w f r t =
    let place : pair_row k < length q = omega (arith, u.whole) in
    record {
      whole = length-set q (pair_row k) row ∙ u.whole;
      own = λ i a h g. rw (get_or-set_other q (pair_row k) (own_row i) row [] (λ z. omega arith)) (u.own i a h g);
      rows = λ i a h g.
          ⊎_elim
          (λ (z : i ≡ k). rw (z, get_or-set_same q (pair_row k) row [] place)
          (omega (arith, t.each a g, back_sum s c x q k (s.second k) k p a u w (omega arith) j g, r a g, sum_more k (row_added s c x (s.second k) a), this a)))
          (λ (z : i < k). rw (get_or-set_other q (pair_row k) (pair_row i) row [] (λ y. omega arith)) (u.rows i a z g))
          (eq-or-lt_of_le (omega arith));
    }
  where
    this : (a : ℕ) → row_added s c x (s.second k) a k ≡ c.pair k e a
    this a = rw (eq-eqb (s.second k) (s.second k) refl, f)

module _ {s : Shape} (o : Walkable s) where
  -- a train completes no pair that begins at it or later, so its last row is that of a pair before these
  end_back : (t f p : ℕ) → Begin s t f → Back s t s.pairs p → Back s t f p
  end_back t f p g (inl r) = inl (record { place = r.place; none = λ i h. r.none i (omega (arith, g.high)) })
  end_back t f p g (inr w) =
      inr (record {
        pair = w.pair;
        place = w.place;
        low = dite (dec_lt w.pair f) (λ h. h) (λ n. absurd (omega (arith, g.after w.pair (omega arith) w.low, o.ascends w.pair w.low, w.here)));
        here = w.here;
        skipped = λ i h q. w.skipped i h (omega (arith, g.high));
      })

  -- the row of a train that is opened
  pub end_sum : (c : Costs) (x : ℕ → ℕ) (q : List (List ℕ)) (t f p a : ℕ) → t < s.trains → a < max_choices → Begin s t f → Back s t s.pairs p → Summed s c x q f
      → sum_at q p a ≡ sum_below s c x t a s.pairs
  end_sum c x q t f p a h r g e u =
      omega (
        arith,
        back_sum s c x q f t f p a u (end_back t f p g e) (omega arith) h r,
        sum_skip (row_added s c x t a) f s.pairs g.high
            (λ i d n. skipped_adds s c x t a i (λ k. omega (arith, g.after i d n, o.ascends i n))),
      )

  pub end_low : (t f p : ℕ) → t < s.trains → Begin s t f → Back s t s.pairs p → p < pair_row f
  end_low t f p h g e = back_low s t f p (omega (arith, o.room)) (end_back t f p g e)

-- a pair's row fits a number of 64 bits
pub row_low : {s : Shape} {c : Costs} → Limited s c wall → (x : ℕ → ℕ) (j k a : ℕ) → j < s.trains → a < max_choices → k ≤ s.pairs
    → ((i : ℕ) → i < k → x (s.first i) < max_choices) → sum_below s c x j a k ≤ wall + k * wall
row_low {s} {c} low x j k a h r l g =
    omega (arith, low.choice j a h r, sum_most k wall (row_added s c x j a) (λ i d. at_pair i d))
  where
    at_pair : (i : ℕ) → i < k → row_added s c x j a i ≤ wall
    at_pair i d =
        dite (ℕ_discrete (s.second i) j)
        (λ (e : s.second i ≡ j). rw (eq-eqb (s.second i) j e) (low.entry i (x (s.first i)) a (omega arith) (g i d) r))
        (λ n. rw (ne_eqb (s.second i) j n) (omega arith))

-- ---- a choice that is carried

-- what keeps its places within the table and the sums: the choice and the end of its pairs,
pub carrying_room : {s : Shape} {c : Costs} {scale bound : ℕ} {l : Table} {q : List (List ℕ)} {t : ℕ} {x : List ℕ} → Carrying s c scale bound l q t x
    → (t < max_trains) × (begin_of l t ≤ begin_of l (t + 1)) × (begin_of l (t + 1) ≤ max_pairs) × (get_or x t 0 < max_choices)
carrying_room {s} {c} {scale} {bound} {l} {q} {t} {x} p =
    let g = p.laid.begins t (omega (arith, p.train)) in
    let h = p.laid.begins (t + 1) (omega (arith, p.train)) in
    (omega (arith, p.train, p.walkable.room), begin_next s t _ _ g h, omega (arith, h.high, p.limited.pairs), omega (arith, p.below t (omega arith), p.limited.sizes t p.train))

-- and at each of its pairs
module _ {s : Shape} {c : Costs} {scale bound : ℕ} {l : Table} {q : List (List ℕ)} {t : ℕ} {x : List ℕ} (p : Carrying s c scale bound l q t x) {k : ℕ} (low : begin_of l t ≤ k) (high : k < begin_of l (t + 1)) where
  -- the shape has the pair, and t begins it
  pair_here : (k < s.pairs) × (s.first k ≡ t)
  pair_here =
      let g = p.laid.begins t (omega (arith, p.train)) in
      let h = p.laid.begins (t + 1) (omega (arith, p.train)) in
      let m : k < s.pairs = omega (arith, h.high) in
      (m, omega (arith, g.after k low m, h.before k high))

  -- the row before it lies before its own
  pub carrying_base : (k < max_pairs) × (get_or l.bases k 0 < pair_row k)
  carrying_base =
      let e = pair_here in
      let j = p.walkable.inside k e.0 in
      (omega (arith, e, p.limited.pairs), back_low s (s.second k) k _ (omega (arith, j, p.walkable.room)) (p.laid.bases k e.0))

  -- the costs that are added there
  carrying_cost : (a : ℕ) → a < max_choices → cost_at l.costs.now k (get_or x t 0) a ≡ c.pair k (get_or x t 0) a
  carrying_cost a h = let e = pair_here in p.laid.rows k (get_or x t 0) a e.0 (rw e.1 (p.below t (omega arith))) h

  module _ {q₁ : List (List ℕ)} (u : Summed s c (choices_of x) q₁ k) where
    -- the sums fit a number of 64 bits
    pub carrying_low : (a : ℕ) → a < max_choices → sum_at q₁ (get_or l.bases k 0) a + cost_at l.costs.now k (get_or x t 0) a < 2 ^ 63
    carrying_low a h =
        let e = pair_here in
        let g = p.laid.begins (t + 1) (omega (arith, p.train)) in
        let j = p.walkable.inside k e.0 in
        omega (
          arith,
          back_sum s c (choices_of x) q₁ k (s.second k) k _ a u (p.laid.bases k e.0) (omega arith) j h,
          carrying_cost a h,
          p.limited.entry k (get_or x t 0) a e.0 (carrying_room p).3 h,
          p.limited.pairs,
          row_low p.limited (choices_of x) (s.second k) k a j h (omega (arith, e))
              (λ i r. omega (
                arith,
                e,
                p.below (s.first i) (g.before i (omega arith)),
                p.limited.sizes (s.first i) (omega (arith, p.walkable.ascends i (omega (arith, e)), p.walkable.inside i (omega (arith, e)))),
              )),
        )

    -- and the pair's row is summed
    pub carrying_more : (row : List ℕ) → Sums (λ a. sum_at q₁ (get_or l.bases k 0) a + cost_at l.costs.now k (get_or x t 0) a) row → Summed s c (choices_of x) (set q₁ (pair_row k) row) (k + 1)
    carrying_more row r =
        let e = pair_here in
        summed_more s c l.costs.now (choices_of x) q₁ row k (get_or x t 0) (get_or l.bases k 0) p.walkable.room carrying_base.0 (p.walkable.inside k e.0) u
        (p.laid.bases k e.0) (ap (choices_of x) e.1) carrying_cost r
