-- An ended search gives the same cost in every order: of two blocks whose ledgers know the same study, each search's plan is a plan of both, and the other's costs no more.
use mathlib.Core.Path.{◌≡◌, sym, ◌∙◌}
use mathlib.Core.Bool.{true}
use mathlib.Core.List.{List}
use Prim.Native.Nat.{ℕ, ◌≤◌}
use native.Mathlib.Omega.{arith}
use lib.IntN.{ℤ}
use Rattle.theory.proofs.Range.{bool_ext}
use Rattle.tables.specs.Plans.{choices_of}
use Rattle.tables.proofs.Plans.{Shaped, study_shaped, total_cong, plan_first, plan_second, alike_shaped, alike_back, alike_plan, alike_total}
use Rattle.search.specs.Answer.{is_found, found_cost, found_plan, search_answer}
use Rattle.claims.specs.Ledger.{Ledger, cost_of}
use Rattle.claims.specs.Claims.{PlanOf, SameLedger}
use Rattle.claims.specs.Orders.{SameCost, OrdersAgree}
use Rattle.claims.proofs.Keeps.{Keeps}
use Rattle.claims.proofs.Found.{known_plan, ended_least}
use Rattle.claims.proofs.After.{after_load}

module _ {h g : Ledger} {b c : List ℤ} (k : Keeps h b) (j : Keeps g c) (same : SameLedger h g) where
  shaped : Shaped h.shape
  shaped = alike_shaped k.same.shape_same (study_shaped k.study)

  -- the plans of the one are those of the other
  plan_over : (x : ℕ → ℕ) → PlanOf h x → PlanOf g x
  plan_over = alike_plan (alike_back same.shape_same shaped) (alike_shaped same.shape_same shaped)

  plan_back : (x : ℕ → ℕ) → PlanOf g x → PlanOf h x
  plan_back = alike_plan same.shape_same shaped

  -- and cost the same
  cost_over : (x : ℕ → ℕ) → PlanOf h x → cost_of h x ≡ cost_of g x
  cost_over x p =
      total_cong h.shape h.costs g.costs x (k.no_constant ∙ sym j.no_constant) (λ i q. same.choices_same i (x i) q (p.below i q))
      (λ i q. same.entries_same i (x (h.shape.first i)) (x (h.shape.second i)) q (plan_first h.shape shaped x p i q) (plan_second h.shape shaped x p i q))
      ∙ alike_total same.shape_same g.costs x

  module _ (budget other : ℕ) (d : (search_answer b budget).ended ≡ true) (e : (search_answer c other).ended ≡ true) where
    -- what the first knows the second knows, at no higher cost
    over : is_found (search_answer b budget) ≡ true → (is_found (search_answer c other) ≡ true) × (found_cost (search_answer c other) ≤ found_cost (search_answer b budget))
    over f =
        let p = known_plan k budget f in
        let x = choices_of (found_plan (search_answer b budget)) in
        let r = ended_least j other e x (plan_over x p.0) in
        (r.0, omega (arith, r.1, p.1, cost_over x p.0))

    -- and back
    back : is_found (search_answer c other) ≡ true → (is_found (search_answer b budget) ≡ true) × (found_cost (search_answer b budget) ≤ found_cost (search_answer c other))
    back f =
        let p = known_plan j other f in
        let x = choices_of (found_plan (search_answer c other)) in
        let q = plan_back x p.0 in
        let r = ended_least k budget d x q in
        (r.0, omega (arith, r.1, p.1, cost_over x q))

    pub same_cost : SameCost (search_answer b budget) (search_answer c other)
    same_cost = record { found = bool_ext _ _ (λ f. (over f).0) (λ f. (back f).0); cost = λ f. omega (arith, (over f).1, (back (over f).0).1) }

-- every two lists with an accepted load each
pub orders_agree : OrdersAgree
orders_agree calls more y z same budget other d e = same_cost (after_load calls y) (after_load more z) same budget other d e
