-- The bound beside the plans of the study. No plan's total in T is below c0, and each plan's total in H is a multiple of the step: the least multiple that covers c0 is at most every total in H that
-- covers it.
use mathlib.Core.Path.{◌≡◌, ap, ◌∙◌}
use mathlib.Core.List.{List}
use Prim.Native.Nat.{ℕ, zero, suc, ◌+◌, ◌-◌, ◌*◌, ◌^◌, ◌%◌, ◌<◌, ◌≤◌, ◌∣◌}
use native.Mathlib.Nat.{mul-le-mul_left, mod-lt, dvd-add, dvd-zero, dvd_of_mod-eq-zero}
use native.Mathlib.Omega.{arith}
use lib.IntN.{ℤ}
use Rattle.theory.specs.Sum.{sum}
use Rattle.units.specs.Units.{rounded_up}
use Rattle.units.proofs.Bound.{rounded_covers, rounded_least, rounded_most, rounded_whole}
use Rattle.tables.specs.Block.{max_cost, trains, scale, pairs, constant, first, second, loaded_choice, loaded_entry}
use Rattle.tables.specs.WellFormed.{Study}
use Rattle.tables.specs.Plans.{IsPlan, choice_total, pair_total, total, shape_of, loaded_costs, held_costs, loaded_total, held_total}
use Rattle.tables.proofs.Study.{scale_range, constant_range, loaded_choice_range, loaded_entry_range}
use Rattle.tables.proofs.Plans.{study_shaped, plan_first, plan_second, constant_at_most_total}
use Rattle.bounds.specs.Steps.{step_of, Used, choice, entry, rounded_to}
use Rattle.bounds.specs.Bounds.{bound_of}
use Rattle.bounds.proofs.Steps.{step_divides, step_above, step_most}
use Rattle.bounds.proofs.Rounded.{rounded_to_covers, rounded_to_multiple, rounded_to_least, rounded_to_most, rounded_to_near, rounded_to_same, next_multiple}

-- what divides each term divides the sum
sum_divides : (n g : ℕ) (f : ℕ → ℕ) → ((i : ℕ) → i < n → g ∣ f i) → g ∣ sum n f
unfolding sum
sum_divides zero g f d = dvd-zero g
sum_divides (suc n) g f d = dvd-add g (sum_divides n g f (λ i h. d i (omega arith))) (d n (omega arith))

module _ {b : List ℤ} (s : Study b) where
  -- the bound is not below c0
  pub bound_covers : constant b ≤ scale b * bound_of b
  unfolding bound_of
  bound_covers =
      omega (arith, rounded_covers (scale b) (scale_range s).0 (constant b), mul-le-mul_left (scale b) (rounded_to_covers (step_of b) (step_above b) (rounded_up (scale b) (constant b))))

  -- ---- the totals

  -- every plan's total in H is a multiple of the step
  pub cost_in_steps : (x : ℕ → ℕ) → IsPlan (shape_of b) x → step_of b ∣ loaded_total b x
  unfolding total choice_total pair_total loaded_costs
  cost_in_steps x p =
      let sh = study_shaped s in
      dvd-add _
      (dvd-add _ (dvd-zero _) (sum_divides (trains b) _ (λ i. loaded_choice b i (x i)) (λ i h. step_divides b (choice i (x i) h (p.below i h)))))
      (sum_divides (pairs b) _ (λ k. loaded_entry b k (x (first b k)) (x (second b k))) (λ k h. step_divides b (entry k _ _ h (plan_first (shape_of b) sh x p k h) (plan_second (shape_of b) sh x p k h))))

  -- where a plan's total in T is s times its total in H, the bound is at most its total in H
  pub bound_at_most : (x : ℕ → ℕ) → IsPlan (shape_of b) x → held_total b x ≡ scale b * loaded_total b x → bound_of b ≤ loaded_total b x
  unfolding bound_of held_costs
  bound_at_most x p e =
      let points = rounded_least (scale b) (scale_range s).0 (constant b) (loaded_total b x) (omega (arith, constant_at_most_total (shape_of b) (held_costs b) x)) in
      omega (arith, rounded_to_most (step_of b) (step_above b) (rounded_up (scale b) (constant b)) (loaded_total b x) (cost_in_steps x p) points)

  -- where c0 is s times a plan's total in H, the bound is that total
  pub bound_met : (x : ℕ → ℕ) → IsPlan (shape_of b) x → constant b ≡ scale b * loaded_total b x → bound_of b ≡ loaded_total b x
  unfolding bound_of
  bound_met x p e =
      ap (rounded_to (step_of b)) (ap (rounded_up (scale b)) e ∙ rounded_whole (scale b) (scale_range s).0 (loaded_total b x))
      ∙ rounded_to_same (step_of b) (step_above b) (loaded_total b x) (cost_in_steps x p)

  -- ---- the steps

  -- the bound is a multiple of the step
  pub bound_in_steps : step_of b ∣ bound_of b
  unfolding bound_of
  bound_in_steps = rounded_to_multiple (step_of b) (step_above b) (rounded_up (scale b) (constant b))

  -- and no lower multiple covers c0
  pub bound_least : (q : ℕ) → constant b ≤ scale b * (step_of b * q) → bound_of b ≤ step_of b * q
  unfolding bound_of
  bound_least q e =
      rounded_to_least (step_of b) (step_above b) _ q (rounded_least (scale b) (scale_range s).0 (constant b) (step_of b * q) e)

  -- ---- ranges

  step_range : step_of b ≤ max_cost
  step_range = step_most b max_cost (omega arith) small
    where
      small : (v : ℕ) → Used b v → v ≤ max_cost
      small v (choice i a h q) = (loaded_choice_range s i a h q).high
      small v (entry k a c h p q) = (loaded_entry_range s k h a c p q).high

  -- the bound fits six bytes
  pub bound_room : bound_of b < 2 ^ 48
  unfolding bound_of
  bound_room =
      omega (arith, rounded_to_near (step_of b) (step_above b) (rounded_up (scale b) (constant b)), step_range, rounded_most (scale b) (scale_range s).0 (constant b), constant_range s)

  -- ---- what the code does: where no point is to be covered the bound is 0, and else the next multiple of the step

  pub none_published : rounded_up (scale b) (constant b) ≡ 0 → bound_of b ≡ 0
  unfolding bound_of
  none_published e = ap (rounded_to (step_of b)) e ∙ rounded_to_same (step_of b) (step_above b) 0 (dvd-zero (step_of b))

  pub next_published : (r : ℕ) → rounded_up (scale b) (constant b) ≤ r → r < rounded_up (scale b) (constant b) + step_of b → r % step_of b ≡ 0 → bound_of b ≡ r
  unfolding bound_of
  next_published r low high e = next_multiple (step_of b) (step_above b) (rounded_up (scale b) (constant b)) r low high (dvd_of_mod-eq-zero (step_of b) e)

  pub next_room : (p g : ℕ) → p ≡ rounded_up (scale b) (constant b) → g ≡ step_of b → p + (g - p % g) % g < 2 ^ 64
  next_room p g e f =
      let h : 0 < g = omega (arith, step_above b) in
      omega (arith, mod-lt (g - p % g) h, step_range, rounded_most (scale b) (scale_range s).0 (constant b), constant_range s)

pub ruleset published = (step_above, none_published, next_published, next_room)
