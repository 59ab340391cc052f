-- What every call keeps between the block and the ledger, and what follows from it: totals, the bound, ceilings and searches by the ledger's costs. It is kept for all weights that agree and spare
-- what is forbidden, of which each plan is one: of the totals of plans alone too little would follow, since there may be no plan.
use mathlib.Core.Path.{◌≡◌, refl, sym, ap₂, ◌∙◌}
use mathlib.Core.List.{List}
use Prim.Native.Nat.{ℕ, ◌+◌, ◌*◌, ◌<◌, ◌≤◌}
use native.Mathlib.Omega.{arith}
use native.Mathlib.Nat.{mul-le-mul}
use lib.IntN.{ℤ}
use Rattle.theory.proofs.Sum.{sum_most}
use Rattle.tables.specs.Block.{max_trains, max_pairs, max_cost, max_parts, trains, scale, pairs, size, first, second, loaded_choice, loaded_entry}
use Rattle.tables.specs.WellFormed.{Study}
use Rattle.tables.specs.Plans.{Shape, AlikeShapes, Costs, IsPlan, Open, choice_total, pair_total, total, shape_of, loaded_costs, held_costs, loaded_total, held_total}
use Rattle.tables.proofs.Plans.{study_shaped, plan_first, plan_second, total_cong, first-size, second-size, alike_shaped, alike_back, alike_plan, alike_total}
use Rattle.tables.proofs.Study.{trains_range, scale_range, pairs_range, first-below-trains, second-below-trains, loaded_choice_range, loaded_entry_range, choice_open_lem, entry_open_lem}
use Rattle.bounds.specs.Bounds.{bound_of}
use Rattle.bounds.proofs.Plans.{bound_at_most}
use Rattle.weights.proofs.Weighs.{Weighs, weighs_total}
use Rattle.claims.specs.Ledger.{Ledger, cost_of}
use Rattle.claims.specs.Claims.{PlanOf, scaled_cost, SameStudy, AfterList}

-- the block holds the ledger's study, and by all weights that agree and spare what is forbidden T weighs s times what H does
pub record Keeps (g : Ledger) (b : List ℤ) : Type 0 where
  pub study : Study b
  pub same : SameStudy g b
  pub no_constant : g.costs.constant ≡ 0
  pub weighs : Weighs (shape_of b) (scale b) (loaded_costs b) (held_costs b)

-- T forbids what H does, since the tables of a study are mates
pub same_study : {g : Ledger} {b : List ℤ} → Study b → AlikeShapes (shape_of b) g.shape → scale b ≡ g.scale
    → ((i a : ℕ) → i < trains b → a < size b i → loaded_choice b i a ≡ g.costs.choice i a)
    → ((k a c : ℕ) → k < pairs b → a < size b (first b k) → c < size b (second b k) → loaded_entry b k a c ≡ g.costs.pair k a c) → SameStudy g b
same_study s e n choices entries =
    record {
      shape_same = e;
      scale_same = n;
      choices_same = choices;
      entries_same = entries;
      held_choices_open = λ i a h q. sym (choice_open_lem s i a h q) ∙ e.choices_open_same i a h q;
      held_entries_open = λ k a c h p q. sym (entry_open_lem s k h a c p q) ∙ e.entries_open_same k a c h p q;
    }

module _ {g : Ledger} {b : List ℤ} (k : Keeps g b) where
  -- every plan's total in T is s times its total in H
  pub scaled-total : (x : ℕ → ℕ) → IsPlan (shape_of b) x → held_total b x ≡ scale b * loaded_total b x
  scaled-total = weighs_total (study_shaped k.study) k.weighs

  -- the ledger's plans are the block's
  pub plan_in : (x : ℕ → ℕ) → PlanOf g x → IsPlan (shape_of b) x
  plan_in = alike_plan k.same.shape_same (study_shaped k.study)

  pub plan_out : (x : ℕ → ℕ) → IsPlan (shape_of b) x → PlanOf g x
  plan_out = let e = k.same.shape_same in let sh = study_shaped k.study in alike_plan (alike_back e sh) (alike_shaped e sh)

  -- where the ledger forbids nothing, neither does the block
  pub open_in : Open g.shape → Open (shape_of b)
  open_in o =
      let e = k.same.shape_same in
      let sh = study_shaped k.study in
      record {
        choices = λ i a h q. e.choices_open_same i a h q ∙ o.choices i a (omega (arith, e.trains_same)) (omega (arith, e.sizes_same i h));
        entries = λ j a c h p q.
            e.entries_open_same j a c h p q ∙ o.entries j a c (omega (arith, e.pairs_same)) (omega (arith, first-size e sh j h)) (omega (arith, second-size e sh j h));
      }

  -- a plan's cost by the ledger is its total in H
  pub cost_is : (x : ℕ → ℕ) → IsPlan (shape_of b) x → cost_of g x ≡ loaded_total b x
  unfolding loaded_costs
  cost_is x p =
      let sh = study_shaped k.study in
      sym (alike_total k.same.shape_same g.costs x)
      ∙ sym (total_cong (shape_of b) (loaded_costs b) g.costs x (sym k.no_constant) (λ i h. k.same.choices_same i (x i) h (p.below i h))
      (λ j h. k.same.entries_same j (x (first b j)) (x (second b j)) h (plan_first (shape_of b) sh x p j h) (plan_second (shape_of b) sh x p j h)))

  -- every plan's total is s times its cost
  pub total_is : (x : ℕ → ℕ) → PlanOf g x → held_total b x ≡ scaled_cost g x
  total_is x p =
      let q = plan_in x p in
      scaled-total x q ∙ ap₂ (λ (u v : ℕ). u * v) k.same.scale_same (sym (cost_is x q))

  -- the bound is at most every plan's cost
  pub bound_low : (x : ℕ → ℕ) → PlanOf g x → bound_of b ≤ cost_of g x
  bound_low x p = let q = plan_in x p in omega (arith, cost_is x q, bound_at_most k.study x q (scaled-total x q))

  pub after_list : AfterList g b
  after_list = record { same = k.same; totals = total_is; bound = bound_low }

-- where no cost is above 1,000,000 and there is no constant, no plan's total is above 72,000,000
pub total_most : (s : Shape) (t : Costs) (x : ℕ → ℕ) → s.trains ≤ max_trains → s.pairs ≤ max_pairs → t.constant ≡ 0
    → ((i : ℕ) → i < s.trains → t.choice i (x i) ≤ max_cost) → ((j : ℕ) → j < s.pairs → t.pair j (x (s.first j)) (x (s.second j)) ≤ max_cost)
    → total s t x ≤ (max_trains + max_pairs) * max_cost
unfolding total choice_total pair_total
total_most s t x n m zero choices entries =
    omega (
      arith,
      sum_most s.trains max_cost (λ i. t.choice i (x i)) choices,
      sum_most s.pairs max_cost (λ j. t.pair j (x (s.first j)) (x (s.second j))) entries,
    )

-- a cost of a plan's pair is within its limit
pub entry_most : {b : List ℤ} → Study b → (x : ℕ → ℕ) → IsPlan (shape_of b) x → (j : ℕ) → j < pairs b → loaded_entry b j (x (first b j)) (x (second b j)) ≤ max_cost
entry_most {b} s x p j h = (loaded_entry_range s j h _ _ (p.below (first b j) (first-below-trains s j h)) (p.below (second b j) (second-below-trains s j h))).high

pub loaded_total_most : {b : List ℤ} → Study b → (x : ℕ → ℕ) → IsPlan (shape_of b) x → loaded_total b x ≤ (max_trains + max_pairs) * max_cost
unfolding loaded_costs
loaded_total_most {b} s x p =
    total_most (shape_of b) (loaded_costs b) x (trains_range s).1 (pairs_range s) refl (λ i h. (loaded_choice_range s i (x i) h (p.below i h)).high) (entry_most s x p)

-- so that its total in T is at most L
pub scaled_most : {b : List ℤ} → Study b → (v : ℕ) → v ≤ (max_trains + max_pairs) * max_cost → scale b * v ≤ max_parts
scaled_most s v h = mul-le-mul (scale_range s).1 h

pub held-total_most : {g : Ledger} {b : List ℤ} → Keeps g b → (x : ℕ → ℕ) → IsPlan (shape_of b) x → held_total b x ≤ max_parts
held-total_most {g} {b} k x p = rw (scaled-total k x p) (scaled_most k.study (loaded_total b x) (loaded_total_most k.study x p))
