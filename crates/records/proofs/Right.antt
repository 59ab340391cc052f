-- What is right of a record: none of the plan's entries is forbidden, the cost is its total in H, and the bound is not above that.
use mathlib.Core.Path.{◌≡◌, refl}
use mathlib.Core.Bool.{Bool, true, false, cond, ◌&&◌}
use mathlib.Core.List.{List}
use Prim.Native.Nat.{ℕ, ◌<◌, ◌≤◌}
use lib.Dec.{leb, eqb}
use lib.IntN.{ℤ}
use borrow.Author.Tests.{leb-true, le-leb, eqb-true, eq-eqb}
use Rattle.std.specs.Prelude.{Option, Some, None}
use Rattle.theory.proofs.Range.{both_true}
use Rattle.units.specs.declared.Points.{Points}
use Rattle.units.specs.Units.{the_points}
use Rattle.tables.specs.Block.{trains}
use Rattle.tables.specs.WellFormed.{Study}
use Rattle.tables.specs.Plans.{IsPlan, choices_held, plan_open, shape_of, loaded_costs, loaded_total}
use Rattle.tables.proofs.Study.{first-below-trains, second-below-trains}
use Rattle.tables.proofs.Plans.{study_shaped, plan_cong}
use Rattle.tables.proofs.Held.{held_plan, open_cong}
use Rattle.records.specs.Records.{plan_cost, record_right}

-- the figures of a record, by what the plan costs
abbrev pub figures_right : Option Points → ℕ → ℕ → Bool
figures_right (Some p) bound cost = eqb cost p.0 && leb bound p.0
figures_right None bound cost = false

module _ (b : List ℤ) (x : ℕ → ℕ) (bound cost : ℕ) where
  pub right_parts : record_right b x bound cost ≡ true → (plan_open (shape_of b) x ≡ true) × ((cost ≡ loaded_total b x) × (bound ≤ loaded_total b x))
  unfolding record_right
  right_parts e =
      let f = both_true (plan_open (shape_of b) x && eqb cost (loaded_total b x)) (leb bound (loaded_total b x)) e in
      let g = both_true (plan_open (shape_of b) x) (eqb cost (loaded_total b x)) f.0 in
      (g.0, (eqb-true cost (loaded_total b x) g.1, leb-true bound (loaded_total b x) f.1))

  pub right_intro : plan_open (shape_of b) x ≡ true → cost ≡ loaded_total b x → bound ≤ loaded_total b x → record_right b x bound cost ≡ true
  unfolding record_right
  right_intro e f g = rw (e, eq-eqb cost (loaded_total b x) f, le-leb bound (loaded_total b x) g)

  -- 'or a forbidden entry'
  pub right_closed : plan_open (shape_of b) x ≡ false → record_right b x bound cost ≡ false
  unfolding record_right
  right_closed e = rw e

  -- as the code judges it, by the cost that it found
  pub right_found : record_right b x bound cost ≡ figures_right (plan_cost b x) bound cost
  unfolding record_right plan_cost
  right_found = go (plan_open (shape_of b) x)
    where
      go : (t : Bool) → t && eqb cost (loaded_total b x) && leb bound (loaded_total b x) ≡ figures_right (cond t (Some (the_points (loaded_total b x))) None) bound cost
      go true = refl
      go false = refl

  -- a right record of choices that are there is one of a plan
  pub right_plan : (n : ℕ) → choices_held (shape_of b) n x ≡ true → record_right b x bound cost ≡ true → IsPlan (shape_of b) x
  right_plan n h e = held_plan (shape_of b) n x h (right_parts e).0

-- plans that agree on the trains have the same records
pub right_cong : {b : List ℤ} → Study b → (x y : ℕ → ℕ) → ((i : ℕ) → i < trains b → x i ≡ y i) → (bound cost : ℕ)
    → record_right b x bound cost ≡ record_right b y bound cost
unfolding record_right
right_cong {b} s x y e bound cost =
    rw (
      open_cong (shape_of b) (study_shaped s) x y e,
      plan_cong (shape_of b) (loaded_costs b) x y e (λ k h. (first-below-trains s k h, second-below-trains s k h)),
    )
