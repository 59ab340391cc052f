-- What certificates, searches and reasons say by the ledger's costs, before it is written as characters. A rival of the ledger is one of the block, since their shapes and costs agree where they are used.
use Rattle.std.specs.Prelude.{Ok}
use mathlib.Core.Path.{◌≡◌, refl, sym, ap, ap₂, subst, ◌∙◌}
use mathlib.Core.Bool.{true, cond}
use mathlib.Core.List.{List}
use mathlib.Core.Logic.{inl, inr, ⊎_elim}
use Prim.Native.Nat.{ℕ, zero, suc, ◌+◌, ◌*◌, ◌<◌, ◌≤◌}
use native.Mathlib.Nat.{mul-zero}
use native.Mathlib.Omega.{arith}
use lib.Dec.{eqb}
use lib.IntN.{ℤ}
use Rattle.units.specs.Units.{rounded_up}
use Rattle.units.proofs.Bound.{rounded_whole}
use Rattle.tables.specs.Block.{max_trains, max_pairs, max_cost, trains, scale, first, second}
use Rattle.tables.specs.Plans.{Shape, AlikeShapes, Costs, IsPlan, Open, choices_of, shape_of, loaded_costs, held_costs, held_total}
use Rattle.tables.proofs.Plans.{Shaped, study_shaped, first-size, second-size}
use Rattle.tables.proofs.Study.{scale_range}
use Rattle.bounds.specs.Bounds.{bound_of}
use Rattle.certificates.specs.declared.certify.Ceiling.{Ceiling}
use Rattle.certificates.specs.Certify.{Weights, certificate}
use Rattle.certificates.specs.Rival.{Fraction, as_fraction, plus, times, sum_of, AtMost, Rival, IsRival, ConstantAtMost, scaled}
use Rattle.certificates.proofs.Ceilings.{certify_rival, rival_cong, rival_alike}
use Rattle.weights.specs.Rival.{Amounts, given_of, Leaves, LiftsAtMost}
use Rattle.weights.proofs.Certified.{certify_moved}
use Rattle.reasons.specs.declared.Reason.TheVariants.{Partner}
use Rattle.reasons.specs.Reasons.{reason_at, reason_number}
use Rattle.reasons.proofs.Reasons.{reason_names}
use Rattle.reasons.proofs.Costs.{reason_cost}
use Rattle.search.specs.Answer.{is_found, found_cost, found_plan, search_answer}
use Rattle.search.proofs.Theorems.{answer_plan, answer_cost, answer-least}
use Rattle.claims.specs.Ledger.{Ledger, cost_of}
use Rattle.claims.specs.Claims.{PlanOf, scaled_cost, start_costs, Partners}
use Rattle.claims.proofs.Keeps.{Keeps, scaled-total, plan_in, plan_out, open_in, cost_is, total_is, bound_low, loaded_total_most}
use Rattle.claims.proofs.Kept.{SameCosts}

-- ---- rivals by lifts and moves, of shapes that agree where they are used

sum_same : (n : ℕ) (f g : ℕ → Fraction) → ((i : ℕ) → i < n → f i ≡ g i) → sum_of n f ≡ sum_of n g
unfolding sum_of
sum_same zero f g h = refl
sum_same (suc n) f g h = ap₂ plus (sum_same n f g (λ i l. h i (omega arith))) (h n (omega arith))

module _ {s u : Shape} (e : AlikeShapes s u) where
  given_alike : (m : Amounts) (i a : ℕ) → given_of s m i a ≡ given_of u m i a
  unfolding given_of
  given_alike m i a =
      let by : ℕ → ℕ → ℕ → Fraction = λ k x y. plus (cond (eqb x i) (m.row k a) (as_fraction 0)) (cond (eqb y i) (m.column k a) (as_fraction 0)) in
      sum_same s.pairs _ _ (λ k h. ap₂ (by k) (e.firsts_same k h) (e.seconds_same k h)) ∙ ap (λ (n : ℕ). sum_of n (λ k. by k (u.first k) (u.second k))) e.pairs_same

  -- what leaves no permitted entry of u below 0 leaves none of s
  leaves_alike : Shaped s → {t v : Costs} → SameCosts s t v → (up down : Amounts) → Leaves u v up down → Leaves s t up down
  leaves_alike sh {t} {v} c up down l =
      record {
        choices = λ i a h q o.
            rw (c.choices i a h q, given_alike up i a, given_alike down i a)
            (l.choices i a (omega (arith, e.trains_same)) (omega (arith, e.sizes_same i h)) (sym (e.choices_open_same i a h q) ∙ o));
        entries = λ k a d h p q o.
            rw (c.entries k a d h p q)
            (l.entries k a d (omega (arith, e.pairs_same)) (omega (arith, first-size e sh k h)) (omega (arith, second-size e sh k h)) (sym (e.entries_open_same k a d h p q) ∙ o));
      }

  lifts_alike : (w n : ℕ) (up down : Amounts) → LiftsAtMost s w n up down → LiftsAtMost u w n up down
  unfolding LiftsAtMost
  lifts_alike w n up down = subst (λ (m : ℕ). AtMost (times w (sum_of m up.lift)) (plus (as_fraction n) (times w (sum_of m down.lift)))) e.trains_same

module _ {g : Ledger} {b : List ℤ} (k : Keeps g b) where
  -- 'W × the constant of every rival is at most E', where nothing is forbidden
  pub ceiling_holds : (w : Weights) {c : Ceiling} → certificate b w ≡ Ok c → Open g.shape → (r : Rival) → IsRival g.shape (scaled_cost g) r
      → ConstantAtMost w.full_weight c.weighted r
  ceiling_holds w e o r is =
      certify_rival w k.study (open_in k o) e r
      (rival_cong (shape_of b) (scaled_cost g) (held_total b) r (λ x p. sym (total_is k x (plan_out k x p)))
      (rival_alike k.same.shape_same (study_shaped k.study) (scaled_cost g) r is))

  -- s × H is s × the ledger's costs
  same_start : SameCosts (shape_of b) (scaled (scale b) (loaded_costs b)) (start_costs g)
  unfolding loaded_costs
  same_start =
      record {
        constant = mul-zero (scale b);
        choices = λ i a h q. ap₂ (λ (u v : ℕ). u * v) k.same.scale_same (k.same.choices_same i a h q);
        entries = λ j a c h p q. ap₂ (λ (u v : ℕ). u * v) k.same.scale_same (k.same.entries_same j a c h p q);
      }

  -- 'the ceiling is at least the constant that results', on every study
  pub moved_holds : (w : Weights) {c : Ceiling} → certificate b w ≡ Ok c → (up down : Amounts) → Leaves g.shape (start_costs g) up down
      → LiftsAtMost g.shape w.full_weight c.weighted up down
  moved_holds w {c} e up down l =
      let same = k.same.shape_same in
      lifts_alike same w.full_weight c.weighted up down (certify_moved k.study k.weighs w e up down (leaves_alike same (study_shaped k.study) same_start up down l))

  -- every plan's total is a whole number of points
  pub points : (x : ℕ → ℕ) → IsPlan (shape_of b) x → held_total b x ≡ scale b * cost_of g x
  points x p = scaled-total k x p ∙ ap (λ (v : ℕ). scale b * v) (sym (cost_is k x p))

  -- so that rounded up it is the plan's cost
  in_points : (x : ℕ → ℕ) → IsPlan (shape_of b) x → rounded_up (scale b) (held_total b x) ≡ cost_of g x
  in_points x p = ap (rounded_up (scale b)) (points x p) ∙ rounded_whole (scale b) (scale_range k.study).0 (cost_of g x)

  -- which the bound never exceeds: a search may end at it
  bound_lowest : (x : ℕ → ℕ) → IsPlan (shape_of b) x → bound_of b ≤ rounded_up (scale b) (held_total b x)
  bound_lowest x p = omega (arith, in_points x p, bound_low k x (plan_out k x p))

  module _ (budget : ℕ) where
    -- a plan that is known is one of the ledger's, and its cost is shown
    pub known_plan : is_found (search_answer b budget) ≡ true → PlanOf g (choices_of (found_plan (search_answer b budget))) × (found_cost (search_answer b budget) ≡ cost_of g (choices_of (found_plan (search_answer b budget))))
    known_plan e =
        let x = choices_of (found_plan (search_answer b budget)) in
        let p = answer_plan k.study budget e in
        (plan_out k x p, answer_cost k.study budget e (cost_of g x) (points x p))

    -- a cost that is shown is far below the characters FF
    pub known_low : is_found (search_answer b budget) ≡ true → found_cost (search_answer b budget) ≤ (max_trains + max_pairs) * max_cost
    known_low e =
        let x = choices_of (found_plan (search_answer b budget)) in
        let p = answer_plan k.study budget e in
        omega (arith, (known_plan e).1, cost_is k x p, loaded_total_most k.study x p)

    -- where there is a plan an ended search knows one, and no plan costs less
    pub ended_least : (search_answer b budget).ended ≡ true → (x : ℕ → ℕ) → PlanOf g x → (is_found (search_answer b budget) ≡ true) × (found_cost (search_answer b budget) ≤ cost_of g x)
    ended_least e x p =
        let q = plan_in k x p in
        let f = answer-least k.study budget bound_lowest e x q in
        (f.0, omega (arith, f.1, in_points x q))

  module _ (i a limit : ℕ) where
    -- 'where 01 or 02 stands, every plan with that choice costs the limit or more'
    pub reason_low : i < trains b → (reason_number (reason_at b i a limit) ≡ 0 → ⊥) → (x : ℕ → ℕ) → PlanOf g x → x i ≡ a → limit ≤ cost_of g x
    reason_low h n x p e =
        let q = plan_in k x p in
        omega (arith, cost_is k x q, reason_cost k.study x q i h limit (rw e n) (scaled-total k x q))

    -- the named train is the line's partner in a pair of the ledger
    pub partner_named : (j : ℕ) → reason_at b i a limit ≡ Partner j → Partners g i j
    partner_named j e =
        let w = reason_names (shape_of b) (held_costs b) i a (scale b * limit) j e in
        let s = k.same.shape_same in
        let f = sym (s.firsts_same w.pair w.there) in
        let h = sym (s.seconds_same w.pair w.there) in
        record {
          pair = w.pair;
          there = omega (arith, w.there, s.pairs_same);
          trains =
              ⊎_elim (λ (q : (first b w.pair ≡ i) × (second b w.pair ≡ j)). inl (f ∙ q.0, h ∙ q.1)) (λ (q : (second b w.pair ≡ i) × (first b w.pair ≡ j)). inr (h ∙ q.0, f ∙ q.1)) w.trains;
        }
