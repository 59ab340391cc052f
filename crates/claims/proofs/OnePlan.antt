-- A certificate with W = 1 that says reached has one plan with weight 1 everywhere, and none costs less: by the block's shape that is weights' own law (Whole). Here its weights are read from the line's characters
-- by the ledger's sizes, where block and ledger keep together, and totals become costs in points.
use Rattle.std.specs.Prelude.{Ok}
use mathlib.Core.Path.{◌≡◌, sym, ap, ap₂, ◌∙◌}
use mathlib.Core.Bool.{true}
use mathlib.Core.List.{List}
use Prim.Native.Nat.{ℕ, ◌+◌, ◌*◌, ◌<◌, ◌≤◌}
use native.Mathlib.Nat.{le_of_mul-le-mul_left}
use native.Mathlib.Omega.{arith}
use lib.IntN.{ℤ}
use lib.ListN.{get_or}
use borrow.Author.Tests.{eqb-true}
use Rattle.theory.proofs.Lists.{list_nth}
use Rattle.theory.proofs.Sum.{sum_cong, row_part}
use Rattle.tables.specs.Block.{trains, scale, pairs, constant, size, first, second}
use Rattle.tables.specs.Plans.{Shape, AlikeShapes, shape_of, held_costs, held_total}
use Rattle.tables.specs.Counts.{pair_entries, choices_before, choice_count, entries_before, weight_count, choice_index, entry_index}
use Rattle.tables.proofs.Counting.{choices_part, entries_part}
use Rattle.tables.proofs.Plans.{Shaped, study_shaped, first-size, second-size}
use Rattle.tables.proofs.Study.{scale_range, first-below-trains, second-below-trains}
use Rattle.certificates.specs.declared.certify.Ceiling.{Ceiling}
use Rattle.certificates.specs.Certify.{Weights, weighted, weights_of, certificate}
use Rattle.certificates.proofs.Agrees.{Agrees}
use Rattle.certificates.proofs.Ceilings.{certify_ceiling}
use Rattle.weights.proofs.Spared.{spared_spares}
use Rattle.weights.proofs.Whole.{one_plan, one_choice, one_entry, one_only, one_is_plan, one_least}
use Rattle.frames.specs.Runs.{run_of}
use Rattle.lines.specs.Layout.{number_in, further, weight_field, weight_width, certify_full_weight}
use Rattle.claims.specs.Ledger.{Ledger, cost_of}
use Rattle.claims.specs.Claims.{PlanOf}
use Rattle.claims.specs.OnePlan.{choice_weight, entry_weight, OnePlan}
use Rattle.claims.proofs.Keeps.{Keeps, plan_out, total_is}

-- ---- shapes that agree where they are used count alike

module _ {s u : Shape} (e : AlikeShapes s u) (sh : Shaped s) where
  choices_same : (i : ℕ) → i ≤ s.trains → choices_before s i ≡ choices_before u i
  choices_same i h = sum_cong i s.size u.size (λ j q. e.sizes_same j (omega arith))

  choice_same : (l : List ℕ) (i a : ℕ) → i < s.trains → choice_weight s l i a ≡ choice_weight u l i a
  choice_same l i a h = ap (λ (n : ℕ). number_in l (further weight_field (n + a))) (choices_same i (omega arith))

  entries_same : (k : ℕ) → k ≤ s.pairs → entries_before s k ≡ entries_before u k
  entries_same k h =
      sum_cong k (pair_entries s) (pair_entries u)
      (λ j q. let p : j < s.pairs = omega arith in ap₂ (λ (m n : ℕ). m * n) (first-size e sh j p) (second-size e sh j p))

  entry_same : (l : List ℕ) (k a c : ℕ) → k < s.pairs → entry_weight s l k a c ≡ entry_weight u l k a c
  entry_same l k a c h =
      ap (λ (n : ℕ). number_in l (further weight_field n))
      (ap₂ (λ (m n : ℕ). m + n) (choices_same s.trains (omega arith) ∙ ap (choices_before u) e.trains_same)
      (ap₂ (λ (m n : ℕ). m + n * a + c) (entries_same k (omega arith)) (second-size e sh k h)))

-- ---- the weights that a line gives on a block

abbrev pub line_weights : List ℕ → List ℤ → Weights
line_weights l b = weights_of b (certify_full_weight l) (run_of l weight_field.at weight_width (weight_count (shape_of b)))

module _ (l : List ℕ) (b : List ℤ) where
  -- weight n of the line
  weight_read : (n : ℕ) → n < weight_count (shape_of b) → get_or (run_of l weight_field.at weight_width (weight_count (shape_of b))) n 0 ≡ number_in l (further weight_field n)
  weight_read n h = list_nth (λ k. number_in l (further weight_field k)) 0 (weight_count (shape_of b)) n h

  choice_read : (i a : ℕ) → i < trains b → a < size b i → (line_weights l b).choice i a ≡ choice_weight (shape_of b) l i a
  choice_read i a h q = weight_read (choice_index (shape_of b) i a) (omega (arith, choices_part (shape_of b) i (trains b) h))

  entry_read : (k a c : ℕ) → k < pairs b → a < size b (first b k) → c < size b (second b k) → (line_weights l b).pair k a c ≡ entry_weight (shape_of b) l k a c
  entry_read k a c h q r =
      weight_read (choice_count (shape_of b) + entry_index (shape_of b) k a c)
      (omega (arith, entries_part (shape_of b) k (pairs b) h, row_part (size b (first b k)) (size b (second b k)) a q))

-- ---- by the ledger

module _ {g : Ledger} {b : List ℤ} (k : Keeps g b) (l : List ℕ) {c : Ceiling} (e : certificate b (line_weights l b) ≡ Ok c) where
  abbrev given : Weights
  given = line_weights l b

  shaped : Shaped (shape_of b)
  shaped = study_shaped k.study

  alike : AlikeShapes (shape_of b) g.shape
  alike = k.same.shape_same

  choice_is : (i a : ℕ) → i < trains b → a < size b i → given.choice i a ≡ choice_weight g.shape l i a
  choice_is i a h q = choice_read l b i a h q ∙ choice_same alike shaped l i a h

  entry_is : (j a d : ℕ) → j < pairs b → a < size b (first b j) → d < size b (second b j) → given.pair j a d ≡ entry_weight g.shape l j a d
  entry_is j a d h q r = entry_read l b j a d h q r ∙ entry_same alike shaped l j a d h

  -- E is W × c0
  full : c.reached ≡ true → weighted (shape_of b) given (held_costs b) ≡ certify_full_weight l * (held_costs b).constant
  unfolding held_costs
  full r = eqb-true _ _ (sym (certify_ceiling b given e).reached ∙ r)

  module _ (one : certify_full_weight l ≡ 1) (r : c.reached ≡ true) where
    agrees : Agrees (shape_of b) given
    agrees = (certify_ceiling b given e).agrees

    abbrev x : ℕ → ℕ
    x = one_plan (shape_of b) shaped given agrees one

    on : (i : ℕ) → i < trains b → (x i < size b i) × (given.choice i (x i) ≡ 1)
    on = one_choice (shape_of b) shaped given agrees one

    there : PlanOf g x
    there = plan_out k x (one_is_plan (shape_of b) shaped given agrees one (spared_spares (shape_of b) given (certify_ceiling b given e).spares))

    on_choices : (i : ℕ) → i < g.shape.trains → choice_weight g.shape l i (x i) ≡ 1
    on_choices i h =
        let t : i < trains b = omega (arith, alike.trains_same) in
        sym (choice_is i (x i) t (on i t).0) ∙ (on i t).1

    on_entries : (j : ℕ) → j < g.shape.pairs → entry_weight g.shape l j (x (g.shape.first j)) (x (g.shape.second j)) ≡ 1
    on_entries j h =
        let t : j < pairs b = omega (arith, alike.pairs_same) in
        sym (ap₂ (λ (m n : ℕ). entry_weight g.shape l j (x m) (x n)) (alike.firsts_same j t) (alike.seconds_same j t))
        ∙ sym (entry_is j (x (first b j)) (x (second b j)) t (on (first b j) (first-below-trains k.study j t)).0 (on (second b j) (second-below-trains k.study j t)).0)
        ∙ one_entry (shape_of b) shaped given agrees one j t

    on_no_other : (y : ℕ → ℕ) → ((i : ℕ) → i < g.shape.trains → y i < g.shape.size i) → ((i : ℕ) → i < g.shape.trains → choice_weight g.shape l i (y i) ≡ 1)
        → (i : ℕ) → i < g.shape.trains → y i ≡ x i
    on_no_other y m f i h =
        let by : (n : ℕ) → n < trains b → n < g.shape.trains = λ n v. omega (arith, alike.trains_same) in
        let below : (n : ℕ) → n < trains b → y n < size b n = λ n v. omega (arith, alike.sizes_same n v, m n (by n v)) in
        one_only (shape_of b) shaped given agrees one y below (λ n v. choice_is n (y n) v (below n v) ∙ f n (by n v)) i (omega (arith, alike.trains_same))

    least_total : (y : ℕ → ℕ) → held_total b x ≤ held_total b y
    least_total = one_least (shape_of b) shaped given agrees one (held_costs b) (full r)

    least_cost : (y : ℕ → ℕ) → PlanOf g y → cost_of g x ≤ cost_of g y
    least_cost y m =
        let h : g.scale * cost_of g x ≤ g.scale * cost_of g y = omega (arith, total_is k x there, total_is k y m, least_total y) in
        le_of_mul-le-mul_left h (omega (arith, k.same.scale_same, scale_range k.study))

    pub one_plan_holds : OnePlan g b l
    one_plan_holds =
        record {
          plan = x;
          is_plan = there;
          choices = on_choices;
          entries = on_entries;
          only = on_no_other;
          least = least_cost;
          least_held = λ y m. least_total y;
        }
