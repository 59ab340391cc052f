-- What one move of Algorithm 1 leaves at the constant, at each choice and at each entry of a pair. The block x has the shape of b, so that its runs are those of b.
use mathlib.Core.Path.{◌≡◌, refl, ap, ◌∙◌}
use mathlib.Core.List.{List}
use mathlib.Core.Logic.{◌⊎◌, ⊎_elim, ◌≢◌}
use Prim.Native.Nat.{ℕ, ◌<◌, ◌≤◌}
use native.Mathlib.Omega.{arith}
use lib.IntN.{ℤ, neg_ℤ, ◌+ℤ◌}
use lib.ListN.{length}
use Rattle.tables.specs.Block.{block_length, max_trains, constant_place, held_choice_place, held_entry_place, at, trains, pairs, size, first, second}
use Rattle.tables.proofs.Study.{SameShape, same_size}
use Rattle.rewriting.specs.declared.sides.PlaceRun.{PlaceRun}
use Rattle.rewriting.specs.declared.sides.Side.{Side}
use Rattle.rewriting.specs.declared.sides.Side.TheVariants.{Rows, Columns}
use Rattle.rewriting.specs.Moves.{ShapeInRange, move_run, lane_train, lane_run, choices_run, project, project_unary}
use Rattle.rewriting.proofs.Runs.{Met, Missed, move_to, move_met, move_other}
use Rattle.rewriting.proofs.Shape.{same_lane, lane_train_lem, lanes_most, lane, unary, project_between_costs, between_costs_run}

-- the train of pair k that has a choice for each place of a lane
abbrev pub across_train : Side → List ℤ → ℕ → ℕ
across_train Rows b k = second b k
across_train Columns b k = first b k

-- place z of lane y of pair k
abbrev pub lane_place : Side → ℕ → ℕ → ℕ → ℕ
lane_place Rows k y z = held_entry_place k y z
lane_place Columns k y z = held_entry_place k z y

module _ {b : List ℤ} (s : ShapeInRange b) where
  -- the places of a lane
  lane_met : (side : Side) (k y z : ℕ) → z < size b (across_train side b k) → Met (lane_run side b k y) (lane_place side k y z)
  lane_met Rows k y z h = record { turn = z; below = h; is = omega arith }
  lane_met Columns k y z h = record { turn = z; below = h; is = omega arith }

  -- where its costs go
  lane_to : (side : Side) (k y : ℕ) → (lane_run side b k y).to ≡ held_choice_place (lane_train side b k) y
  lane_to Rows k y = refl
  lane_to Columns k y = refl

  -- a place below the entries is in no lane
  lane_missed : (side : Side) (k y p : ℕ) → p < held_entry_place 0 0 0 → Missed (lane_run side b k y) p
  lane_missed Rows k y p h i l e = omega arith
  lane_missed Columns k y p h i l e = omega arith

  -- nor is a place of another lane or of another pair
  lane_other : (side : Side) (k y l t z : ℕ) → k < pairs b → l < pairs b → y < size b (lane_train side b k) → t < size b (lane_train side b l) → z < size b (across_train side b l)
      → (l ≢ k) ⊎ (t ≢ y) → Missed (lane_run side b k y) (lane_place side l t z)
  lane_other Rows k y l t z h g q r w n i j e =
      let d = lanes_most s Rows k h in
      let f = lanes_most s Columns k h in
      let u = lanes_most s Rows l g in
      let v = lanes_most s Columns l g in
      ⊎_elim (λ (m : l ≢ k). m (omega arith)) (λ (m : t ≢ y). m (omega arith)) n
  lane_other Columns k y l t z h g q r w n i j e =
      let d = lanes_most s Rows k h in
      let f = lanes_most s Columns k h in
      let u = lanes_most s Rows l g in
      let v = lanes_most s Columns l g in
      ⊎_elim (λ (m : l ≢ k). m (omega arith)) (λ (m : t ≢ y). m (omega arith)) n

  -- no entry is a choice or the constant
  entry_high : (side : Side) (l t z : ℕ) → held_entry_place 0 0 0 ≤ lane_place side l t z
  entry_high Rows l t z = omega arith
  entry_high Columns l t z = omega arith

  pub choice_low : (i a : ℕ) → i < max_trains → a < size b i → held_choice_place i a < held_entry_place 0 0 0
  choice_low i a h q = omega (arith, s.sizes i h)

  -- choices of different trains, and different choices of one, have different places
  pub choices_apart : (i a j c : ℕ) → i < max_trains → j < max_trains → a < size b i → c < size b j → (i ≢ j) ⊎ (a ≢ c) → held_choice_place i a ≢ held_choice_place j c
  choices_apart i a j c h g q r n e =
      let u = s.sizes i h in
      let v = s.sizes j g in
      ⊎_elim (λ (m : i ≢ j). m (omega arith)) (λ (m : a ≢ c). m (omega arith)) n

  module _ (x : List ℤ) (u : SameShape b x) where
    long : length x ≡ block_length
    long = u.whole ∙ s.whole

    -- ---- UnaryProject

    module _ (t : ℕ) (h : t < trains b) where
      pub choices_same : choices_run x t ≡ choices_run b t
      choices_same = rw (same_size u t (omega (arith, s.trains)))

      -- a place that is neither the constant nor a choice of the train
      choices_missed : (i a : ℕ) → i < max_trains → a < size b i → i ≢ t → Missed (choices_run b t) (held_choice_place i a)
      choices_missed i a g q n j l e = n (omega (arith, s.sizes i g, s.sizes t (omega (arith, s.trains))))

      choices_met : (a : ℕ) → a < size b t → Met (choices_run b t) (held_choice_place t a)
      choices_met a q = record { turn = a; below = q; is = omega arith }

      choices_low : (p : ℕ) → held_entry_place 0 0 0 ≤ p → Missed (choices_run b t) p
      choices_low p g j l e = omega (arith, s.sizes t (omega (arith, s.trains)), s.trains)

      module _ (α : ℤ) where
        by_unary : (p : ℕ) {z : ℤ} → at (move_run (choices_run b t) α x) p ≡ z → at (project_unary t α x) p ≡ z
        by_unary p e = ap (λ (r : PlaceRun). at (move_run r α x) p) choices_same ∙ e

        pub unary_constant : at (project_unary t α x) constant_place ≡ at x constant_place +ℤ α
        unary_constant =
            let f = project_between_costs s (unary t h) in
            by_unary constant_place (move_to (choices_run b t) α x (between_costs_run x long f) f.missed constant_place refl)

        pub unary_choice : (a : ℕ) → a < size b t → at (project_unary t α x) (held_choice_place t a) ≡ at x (held_choice_place t a) +ℤ neg_ℤ α
        unary_choice a q =
            let f = project_between_costs s (unary t h) in
            by_unary (held_choice_place t a) (move_met (choices_run b t) α x (between_costs_run x long f) f.missed (held_choice_place t a) (choices_met a q))

        pub unary_choice_other : (i a : ℕ) → i < max_trains → a < size b i → i ≢ t → at (project_unary t α x) (held_choice_place i a) ≡ at x (held_choice_place i a)
        unary_choice_other i a g q n =
            by_unary (held_choice_place i a) (move_other (choices_run b t) α x (held_choice_place i a) (λ e. omega arith) (choices_missed i a g q n))

        pub unary_high : (p : ℕ) → held_entry_place 0 0 0 ≤ p → at (project_unary t α x) p ≡ at x p
        unary_high p g = by_unary p (move_other (choices_run b t) α x p (λ e. omega arith) (choices_low p g))

    -- ---- Project

    module _ (side : Side) (k y : ℕ) (h : k < pairs b) (q : y < size b (lane_train side b k)) where
      pub lane_same : lane_run side x k y ≡ lane_run side b k y
      lane_same = same_lane u s k (omega (arith, s.pairs)) side y

      module _ (α : ℤ) where
        by_lane : (p : ℕ) {z : ℤ} → at (move_run (lane_run side b k y) α x) p ≡ z → at (project side k y α x) p ≡ z
        by_lane p e = ap (λ (r : PlaceRun). at (move_run r α x) p) lane_same ∙ e

        pub project_choice : at (project side k y α x) (held_choice_place (lane_train side b k) y) ≡ at x (held_choice_place (lane_train side b k) y) +ℤ α
        project_choice =
            let f = project_between_costs s (lane side k y h q) in
            let p = held_choice_place (lane_train side b k) y in
            by_lane p (move_to (lane_run side b k y) α x (between_costs_run x long f) f.missed p (rw (lane_to side k y)))

        -- a number below the entries that is not where the lane goes
        pub project_low : (p : ℕ) → p < held_entry_place 0 0 0 → p ≢ held_choice_place (lane_train side b k) y → at (project side k y α x) p ≡ at x p
        project_low p g n = by_lane p (move_other (lane_run side b k y) α x p (λ e. n (e ∙ lane_to side k y)) (lane_missed side k y p g))

        pub project_entry : (z : ℕ) → z < size b (across_train side b k) → at (project side k y α x) (lane_place side k y z) ≡ at x (lane_place side k y z) +ℤ neg_ℤ α
        project_entry z r =
            let f = project_between_costs s (lane side k y h q) in
            by_lane (lane_place side k y z) (move_met (lane_run side b k y) α x (between_costs_run x long f) f.missed (lane_place side k y z) (lane_met side k y z r))

        pub project_entry_other : (l t z : ℕ) → l < pairs b → t < size b (lane_train side b l) → z < size b (across_train side b l) → (l ≢ k) ⊎ (t ≢ y)
            → at (project side k y α x) (lane_place side l t z) ≡ at x (lane_place side l t z)
        project_entry_other l t z g r w n =
            by_lane (lane_place side l t z)
            (move_other (lane_run side b k y) α x (lane_place side l t z)
            (λ e. omega (arith, lane_to side k y, entry_high side l t z, choice_low (lane_train side b k) y (lane_train_lem s side k h) q))
            (lane_other side k y l t z h g q r w n))
