-- What follows from demand 3's statement (specs/Claims.antt) where entries are forbidden or a point is more than one part: on D, on the clique, and on two studies of three parts a point and unequal sizes,
-- of which one forbids entries and one none. Each law has the statement as its premise, as in Uses.
use mathlib.Core.Path.{◌≡◌, refl, ◌∙◌}
use mathlib.Core.Bool.{Bool, true, false, cond, not, ◌&&◌, ◌||◌}
use mathlib.Core.List.{List, [], ◌∷◌}
use Prim.Native.Nat.{ℕ, zero, suc, ◌+◌, ◌*◌, ◌<◌, ◌≤◌}
use Prim.Native.String.{String}
use native.Mathlib.Omega.{arith}
use lib.Dec.{eqb}
use lib.IntN.{ℤ}
use Rattle.theory.proofs.Range.{not_both}
use Rattle.tables.specs.Block.{loaded_choice_place, held_choice_place, loaded_entry_place, held_entry_place, at, trains, pairs, size, first, second, loaded_choice}
use Rattle.tables.specs.WellFormed.{is_open}
use Rattle.tables.specs.Plans.{Open, held_total}
use Rattle.bounds.specs.Bounds.{bound_of}
use Rattle.certificates.specs.Rival.{Fraction, as_fraction, plus, times, sum_of, AtMost, Rival, rival_total, IsRival, ConstantAtMost}
use Rattle.weights.specs.Rival.{Amounts, Leaves, LiftsAtMost}
use Rattle.frames.specs.Text.{codes}
use Rattle.lines.specs.declared.kind.Kind.TheVariants.{Tighten, Certify, Search, Save}
use Rattle.decoding.specs.Numbers.{numbers_of}
use Rattle.service.specs.Answer.{answer}
use Rattle.service.specs.Calls.{Exchange}
use Rattle.claims.specs.Ledger.{Ledger, numbers_ledger}
use Rattle.claims.specs.Claims.{PlanOf, scaled_cost, start_costs, AtLine, Claimed}
use Rattle.claims.specs.OnePlan.{choice_weight}
use Rattle.claims.specs.Forbidden.{ForbiddenStays}
use Rattle.claims.proofs.ByKind.{line_claim}
use Rattle.claims.proofs.ByComputing.{each_choice, each_entry, open_lem, plan_test, plan_lem, leaves_test, leaves_lem, same_as, same_lem, above_lem, each_three, three_lem}
use Rattle.claims.proofs.Uses.{told, at_two}

-- ---- D and the clique

-- 'the three-train two-choice clique of source document 000': two trains never take the same
unfoldable clique_load : String
clique_load = "01030001020202000000000000000000000000000000000000030001FFFFFF000000000000FFFFFF0002FFFFFF000000000000FFFFFF0102FFFFFF000000000000FFFFFF"

unfoldable clique : Ledger
unfolding clique_load codes
clique = numbers_ledger (numbers_of (codes clique_load))

-- of three choices out of two, two are the same
clique_choices : (a b c : ℕ) → a < 2 → b < 2 → c < 2
    → clique.shape.entry_open 0 a b ≡ true → clique.shape.entry_open 1 a c ≡ true → clique.shape.entry_open 2 b c ≡ true → ⊥
unfolding told clique_load clique
clique_choices zero zero c h i k p q r = not_both p refl
clique_choices (suc zero) (suc zero) c h i k p q r = not_both p refl
clique_choices zero (suc zero) zero h i k p q r = not_both q refl
clique_choices zero (suc zero) (suc zero) h i k p q r = not_both r refl
clique_choices (suc zero) zero zero h i k p q r = not_both r refl
clique_choices (suc zero) zero (suc zero) h i k p q r = not_both q refl
clique_choices (suc (suc a)) b c h i k p q r = omega arith
clique_choices zero (suc (suc b)) c h i k p q r = omega arith
clique_choices (suc zero) (suc (suc b)) c h i k p q r = omega arith
clique_choices zero (suc zero) (suc (suc c)) h i k p q r = omega arith
clique_choices (suc zero) zero (suc (suc c)) h i k p q r = omega arith

clique_no_plan : (x : ℕ → ℕ) → PlanOf clique x → ⊥
unfolding told clique_load clique
clique_no_plan x p =
    clique_choices (x 0) (x 1) (x 2) (p.below 0 (omega arith)) (p.below 1 (omega arith)) (p.below 2 (omega arith)) (p.entries 0 (omega arith)) (p.entries 1 (omega arith)) (p.entries 2 (omega arith))

-- so every rival gives every plan its cost, a constant of 1 too
dear : Rival
dear = record { gain = as_fraction 1; loss = as_fraction 0; choice = λ i a. as_fraction 0; pair = λ k a c. as_fraction 0 }

-- 'defeats the wider claim': halves on all choices and on all permitted entries are a certificate with W = 2 and E = 0
clique_wider : ((r : Rival) → IsRival clique.shape (scaled_cost clique) r → ConstantAtMost 2 0 r) → ⊥
unfolding dear IsRival ConstantAtMost AtMost times plus as_fraction
clique_wider claim = let h : 2 ≤ 0 = claim dear (λ x p. absurd (clique_no_plan x p)) in omega arith

-- D is J with choice 1 of train 0 forbidden
unfoldable d_load : String
d_load = "010200010202000002FFFFFF000000000000010001000001000000000003000002"

unfoldable d : Ledger
unfolding d_load codes
d = numbers_ledger (numbers_of (codes d_load))

-- ---- replies to lines on the clique

module _ {b : List ℤ} where
  -- 02 with a cost, and with a choice
  without_cost : AtLine clique b (told "06" "860200000004000000000002FFFFFF") → ⊥
  unfolding told
  without_cost a = not_both refl ((line_claim a Search refl).blank refl).0

  without_plan : AtLine clique b (told "06" "860200000004FFFFFFFFFFFFFFFF00") → ⊥
  unfolding told clique_load clique
  without_plan a = let h : ◌≡◌ {A = ℕ} 0 255 = ((line_claim a Search refl).blank refl).1 2 (omega arith) in omega arith

  -- 02: there is no plan
  clique_without : AtLine clique b (told "06" "86020000000AFFFFFFFFFFFFFFFFFF") → (x : ℕ → ℕ) → PlanOf clique x → ⊥
  unfolding told
  clique_without a = (line_claim a Search refl).none refl

  -- the certificate of halves: no lifts and moves that leave no permitted entry below 0 raise the constant
  clique_ceiling : AtLine clique b (told "05" "85010000000000000000000002") → (up down : Amounts) → Leaves clique.shape (start_costs clique) up down → LiftsAtMost clique.shape 2 0 up down
  unfolding told
  clique_ceiling a = (line_claim a Certify refl).moved_ceiling

  -- a saved line that permits trains 0 and 1 to take choice 0, and one that forbids them the choices 0 and 1
  saved_entry_opened : AtLine clique b (told "07" "01030001020202000000000000000000000000000000000000030001000000000000000000FFFFFF0002FFFFFF000000000000FFFFFF0102FFFFFF000000000000FFFFFF") → ⊥
  unfolding told clique_load clique
  saved_entry_opened a = not_both refl ((line_claim a Save refl).gives.shape_same.entries_open_same 0 0 0 (omega arith) (omega arith) (omega arith))

  saved_entry_closed : AtLine clique b (told "07" "01030001020202000000000000000000000000000000000000030001FFFFFFFFFFFF000000FFFFFF0002FFFFFF000000000000FFFFFF0102FFFFFF000000000000FFFFFF") → ⊥
  unfolding told clique_load clique
  saved_entry_closed a = not_both ((line_claim a Save refl).gives.shape_same.entries_open_same 0 0 1 (omega arith) (omega arith) (omega arith)) refl

-- ---- certificates with W = 1 that say reached

module _ {b : List ℤ} where
  -- of the clique, which has no plan
  closed_entry : AtLine clique b (told "05000001000001000000000001000000000001000000000001000000000000000000000001000000000000000000000001000000000000000000" "85010000000000000000000001") → ⊥
  unfolding told
  closed_entry a = let w = (line_claim a Certify refl).one_plan refl refl in clique_no_plan w.plan w.is_plan

  -- of D, with weight 1 on its forbidden choice
  closed_choice : AtLine d b (told "05000001000000000001000000000001000000000000000000000001" "85010000000000000002000001") → ⊥
  unfolding told d_load d
  closed_choice a =
      let w = (line_claim a Certify refl).one_plan refl refl in
      at_two (λ c. choice_weight d.shape (told "05000001000000000001000000000001000000000000000000000001" "").line 0 c ≡ 1 → d.shape.choice_open 0 c ≡ true → ⊥)
      (λ e o. omega (arith, e)) (λ e o. not_both o refl) (w.plan 0) (w.is_plan.below 0 (omega arith)) (w.choices 0 (omega arith)) (w.is_plan.choices 0 (omega arith))

-- ---- saved lines of D

module _ {b : List ℤ} where
  -- with a cost for its forbidden choice, and with FFFFFF for a permitted one
  saved_choice_opened : AtLine d b (told "07" "010200010202000002000000000000000000010001000001000000000003000002") → ⊥
  unfolding told d_load d
  saved_choice_opened a = not_both refl ((line_claim a Save refl).gives.shape_same.choices_open_same 0 1 (omega arith) (omega arith))

  saved_choice_closed : AtLine d b (told "07" "010200010202FFFFFFFFFFFF000000000000010001000001000000000003000002") → ⊥
  unfolding told d_load d
  saved_choice_closed a = not_both ((line_claim a Save refl).gives.shape_same.choices_open_same 0 0 (omega arith) (omega arith)) refl

-- ---- lists on D and the clique

-- D is loaded, and 5 points are added to its forbidden choice
unfoldable d_session : List Exchange
unfolding told d_load
d_session = told d_load "81000000000000000000000000" ∷ told "020001000005" "82000000000000000000000000" ∷ []

-- the choice is forbidden still, in H and in T, and costs nothing
d_forbidden : {b₀ b₁ b : List ℤ} → Claimed (b₀ ∷ b₁ ∷ []) d_session b
    → (is_open (at b (loaded_choice_place 0 1)) ≡ false) × (is_open (at b (held_choice_place 0 1)) ≡ false) × (loaded_choice b 0 1 ≡ 0)
unfolding told d_load d_session
d_forbidden {b = b} c =
    let s = (c.after refl).same in
    let n : trains b ≡ 2 = s.shape_same.trains_same in
    let e : size b 0 ≡ 2 = s.shape_same.sizes_same 0 (omega arith) in
    (s.shape_same.choices_open_same 0 1 (omega arith) (omega arith), s.held_choices_open 0 1 (omega arith) (omega arith), s.choices_same 0 1 (omega arith) (omega arith))

-- the clique is loaded
unfoldable clique_session : List Exchange
unfolding told clique_load
clique_session = told clique_load "81000000000000000000000000" ∷ []

-- trains 0 and 1 may not both take choice 0
clique_forbidden : {b₀ b : List ℤ} → Claimed (b₀ ∷ []) clique_session b → (is_open (at b (loaded_entry_place 0 0 0)) ≡ false) × (is_open (at b (held_entry_place 0 0 0)) ≡ false)
unfolding told clique_load clique_session
clique_forbidden {b = b} c =
    let s = (c.after refl).same in
    let e = s.shape_same in
    let n : trains b ≡ 3 = e.trains_same in
    let m : pairs b ≡ 3 = e.pairs_same in
    let f : first b 0 ≡ 0 = e.firsts_same 0 (omega arith) in
    let g : second b 0 ≡ 1 = e.seconds_same 0 (omega arith) in
    let u : size b 0 ≡ 2 = e.sizes_same 0 (omega arith) in
    let v : size b 1 ≡ 2 = e.sizes_same 1 (omega arith) in
    let p : 0 < size b (first b 0) = rw f (omega arith) in
    let q : 0 < size b (second b 0) = rw g (omega arith) in
    (e.entries_open_same 0 0 0 (omega arith) p q, s.held_entries_open 0 0 0 (omega arith) p q)

-- ---- what no line but a load changes

-- D is loaded. Its forbidden choice stays so by a tightening, in H, and by an addition to it, in T; and a permitted choice stays permitted, whatever the lines are answered
module _ (stays : ForbiddenStays) {b₀ b₁ b : List ℤ} (c : Claimed (b₀ ∷ b₁ ∷ []) d_session b) (buffer : List ℕ) where
  stays_forbidden : is_open (at (answer (codes "04") b buffer).block (loaded_choice_place 0 1)) ≡ false
  unfolding told
  stays_forbidden = stays (codes "04") b buffer refl (loaded_choice_place 0 1) (omega arith) (omega arith) ∙ (d_forbidden c).0

  sum_forbidden : is_open (at (answer (codes "020001000001") b buffer).block (held_choice_place 0 1)) ≡ false
  unfolding told
  sum_forbidden = stays (codes "020001000001") b buffer refl (held_choice_place 0 1) (omega arith) (omega arith) ∙ (d_forbidden c).1

  stays_permitted : is_open (at (answer (codes "08") b buffer).block (held_choice_place 0 0)) ≡ true
  unfolding told d_load d_session
  stays_permitted =
      let s = (c.after refl).same in
      let n : trains b ≡ 2 = s.shape_same.trains_same in
      let e : size b 0 ≡ 2 = s.shape_same.sizes_same 0 (omega arith) in
      stays (codes "08") b buffer refl (held_choice_place 0 0) (omega arith) (omega arith) ∙ s.held_choices_open 0 0 (omega arith) (omega arith)

-- ---- three parts a point, with forbidden entries

-- the clique, where trains 0 and 2 have a choice 2 besides, which train 0 may not take: the plans 012 and 102 cost 3 and 2, and there is no other
unfoldable uneven_load : String
uneven_load =
    "01030003030203000001000000FFFFFF000000000000000000000000000001030001FFFFFF000000000000FFFFFF0000000000000002FFFFFF000000000000000000FFFFFF0000010000000000000000000102FFFFFF000000000000000000FFFFFF000001"

unfoldable uneven : Ledger
unfolding uneven_load codes
uneven = numbers_ledger (numbers_of (codes uneven_load))

-- the plan of three trains that takes a, c and d
plan_of : ℕ → ℕ → ℕ → ℕ → ℕ
plan_of a c d i = cond (eqb i 0) a (cond (eqb i 1) c d)

plan_102 : PlanOf uneven (plan_of 1 0 2)
unfolding told uneven_load uneven plan_of plan_test
plan_102 = plan_lem uneven.shape (plan_of 1 0 2) refl

-- so many quarters
quarters : ℕ → Fraction
quarters n = record { num = n; den = 4; above = omega arith }

-- 1½ parts of choice 0 of train 0 go by train 1 to train 2 and back to choice 1 of train 0, and then from both to the constant, from which train 2 takes ¼. Choice 2 of train 0 and three entries end
-- below 0, all of them forbidden
ups : Amounts
ups =
    record {
      lift = λ i. quarters (cond (eqb i 0) 6 0);
      row = λ k a. quarters (cond (eqb k 1 && eqb a 1) 6 0);
      column = λ k c. quarters (cond ((eqb k 0 && eqb c 1) || (eqb k 2 && eqb c 0)) 6 0);
    }

downs : Amounts
downs =
    record {
      lift = λ i. quarters (cond (eqb i 2) 1 0);
      row = λ k a. quarters (cond ((eqb k 0 && not (eqb a 1)) || (eqb k 2 && eqb a 1)) 6 0);
      column = λ k c. quarters (cond (eqb k 1 && eqb c 0) 6 0);
    }

ups_leave : Leaves uneven.shape (start_costs uneven) ups downs
unfolding told uneven_load uneven quarters ups downs leaves_test
ups_leave = leaves_lem uneven.shape (start_costs uneven) ups downs refl

module _ {b : List ℤ} where
  -- a bound of 3 points, 9 parts: plan 102 costs 2
  scaled_bound : AtLine uneven b (told "04" "84000000000009000000000003") → ⊥
  unfolding told uneven_load uneven plan_of
  scaled_bound a = let h : 3 ≤ 2 = (line_claim a Tighten refl).bound (plan_of 1 0 2) plan_102 in omega arith

  -- ended with plan 012, which costs 3
  scaled_worse : AtLine uneven b (told "06" "860100000008000000000003000102") → ⊥
  unfolding told uneven_load uneven plan_of
  scaled_worse a = let h : 3 ≤ 2 = (line_claim a Search refl).least refl (plan_of 1 0 2) plan_102 in omega arith

  -- plan 102 at its total in parts
  cost_in_parts : AtLine uneven b (told "06" "860000000008000000000006010002") → ⊥
  unfolding told uneven_load uneven
  cost_in_parts a = let h : ◌≡◌ {A = ℕ} 6 2 = ((line_claim a Search refl).shown refl).1 in omega arith

  -- a plan with the forbidden choice, and one with a forbidden entry, both at what is paid for them
  forbidden_choice : AtLine uneven b (told "06" "860000000008000000000000020001") → ⊥
  unfolding told uneven_load uneven
  forbidden_choice a = not_both (((line_claim a Search refl).shown refl).0.choices 0 (omega arith)) refl

  forbidden_entry : AtLine uneven b (told "06" "860000000008000000000002000002") → ⊥
  unfolding told uneven_load uneven
  forbidden_entry a = not_both (((line_claim a Search refl).shown refl).0.entries 0 (omega arith)) refl

  -- a ceiling of 1 part: lifts and moves give a constant of 1¼
  low_quarters : AtLine uneven b (told "05" "85000000000000000001000001") → ⊥
  unfolding told uneven_load uneven quarters ups downs LiftsAtMost sum_of times plus as_fraction
  low_quarters a = above_lem _ _ refl ((line_claim a Certify refl).moved_ceiling ups downs ups_leave)

-- it is loaded
unfoldable uneven_session : List Exchange
unfolding told uneven_load
uneven_session = told uneven_load "81000000000000000000000000" ∷ []

module _ {b₀ b : List ℤ} (d : Claimed (b₀ ∷ []) uneven_session b) where
  -- plan 102 comes to 6 parts, and the bound is at most 2 points
  scaled_total : held_total b (plan_of 1 0 2) ≡ 6
  unfolding told uneven_load uneven uneven_session plan_of
  scaled_total = (d.after refl).totals (plan_of 1 0 2) plan_102

  held_bound : bound_of b ≤ 2
  unfolding told uneven_load uneven uneven_session plan_of
  held_bound = (d.after refl).bound (plan_of 1 0 2) plan_102

-- ---- three parts a point, with nothing forbidden

-- three trains with 2, 2 and 3 choices: two that take the same cost 1 point
unfoldable triangle_load : String
triangle_load = "0103000302020300000100000000000000000000000000000000000103000100000100000000000000000100020000010000000000000000000000010000010102000001000000000000000000000001000001"

unfoldable triangle : Ledger
unfolding triangle_load codes
triangle = numbers_ledger (numbers_of (codes triangle_load))

triangle_open : Open triangle.shape
unfolding told triangle_load triangle each_choice each_entry
triangle_open = open_lem triangle.shape refl refl

-- a rival gives every plan its cost, where it gives it to each of 2, 2 and 3 choices
gives_cost : Rival → ℕ → ℕ → ℕ → Bool
unfolding rival_total sum_of plus as_fraction
gives_cost r a c d = same_as (rival_total triangle.shape r (plan_of a c d)) (plus (as_fraction (scaled_cost triangle (plan_of a c d))) r.loss)

triangle_rivals : (r : Rival) → each_three 2 2 3 (gives_cost r) ≡ true → IsRival triangle.shape (scaled_cost triangle) r
unfolding told triangle_load triangle plan_of IsRival rival_total sum_of plus as_fraction gives_cost
triangle_rivals r e x p =
    same_lem _ _ (three_lem 2 2 3 (gives_cost r) e (x 0) (x 1) (x 2) (p.below 0 (omega arith)) (p.below 1 (omega arith)) (p.below 2 (omega arith)))

-- a rival with a constant of 1½ less ¼
by_quarters : Rival
by_quarters =
    record {
      gain = quarters 6;
      loss = quarters 1;
      choice = λ i a. quarters (cond (eqb i 2) (cond (eqb a 2) 13 1) 0);
      pair = λ k a c. quarters (cond (eqb k 2) (cond (eqb a 0) (cond (eqb c 0) 6 0) (cond (eqb c 0) 0 18)) (cond (eqb a 0) (cond (eqb c 0) 18 0) (cond (eqb c 0) 0 6)));
    }

-- and one with a constant of ½ below 0
below_0 : Rival
below_0 =
    record {
      gain = as_fraction 0;
      loss = quarters 2;
      choice = λ i a. quarters (12 * triangle.costs.choice i a + cond (eqb i 0) 2 0);
      pair = λ k a c. as_fraction (3 * triangle.costs.pair k a c);
    }

by_quarters_rival : IsRival triangle.shape (scaled_cost triangle) by_quarters
unfolding told triangle_load triangle plan_of quarters by_quarters gives_cost each_three
by_quarters_rival = triangle_rivals by_quarters refl

below_0_rival : IsRival triangle.shape (scaled_cost triangle) below_0
unfolding told triangle_load triangle plan_of quarters below_0 gives_cost each_three
below_0_rival = triangle_rivals below_0 refl

module _ {b : List ℤ} where
  -- a ceiling of 1 part
  low_rival : AtLine triangle b (told "05" "85000000000000000001000001") → ⊥
  unfolding told triangle_load triangle quarters by_quarters ConstantAtMost times plus as_fraction
  low_rival a = above_lem _ _ refl ((line_claim a Certify refl).ceiling triangle_open by_quarters by_quarters_rival)

  -- rivals with a constant below 0 are among those that a ceiling of 0 bounds
  ceiling_below_0 : AtLine triangle b (told "05" "85000000000000000000000001") → ConstantAtMost 1 0 below_0
  unfolding told
  ceiling_below_0 a = (line_claim a Certify refl).ceiling triangle_open below_0 below_0_rival
