-- Document 02, change 6: 'ended searches that met the bound early count fewer tries, and some spent ones end', and nothing else changes.
-- The walk with the rule and the walk without it go side by side. They are equal until a best meets; after that the one stands still, and the other's best and plan stay, since no plan is lower.
use mathlib.Core.Path.{◌≡◌, refl, sym, ap, ◌∙◌}
use mathlib.Core.Bool.{Bool, true, false}
use mathlib.Core.List.{List}
use mathlib.Core.Logic.{◌⊎◌, inl, inr}
use Prim.Native.Nat.{ℕ, zero, suc, ◌+◌, ◌*◌, ◌<◌, ◌≤◌}
use native.Mathlib.Omega.{arith}
use lib.Dec.{eqb}
use lib.IntN.{ℤ}
use lib.ListN.{set}
use Rattle.theory.specs.Order.{IsOrder, rank}
use Rattle.theory.proofs.Range.{not_both}
use Rattle.units.specs.declared.Parts.{Parts}
use Rattle.tables.specs.Block.{trains, scale}
use Rattle.tables.specs.WellFormed.{Study}
use Rattle.tables.specs.Plans.{Shape, Costs, IsPlan, choices_of, total, shape_of, held_total}
use Rattle.tables.proofs.Study.{scale_range}
use Rattle.bounds.specs.Bounds.{bound_of}
use Rattle.orders.specs.Ordered.{ordered_shape, by_train}
use Rattle.rows.specs.Limits.{Walkable}
use Rattle.search.specs.Walk.{Walk, barred, added, Decided, counted, marked_spent, whole_plan, stopped, pick_walk, beaten, dropped, counted_try, one_try, tried_from, choice_try, opened_train, nothing_tried, walked, never, at_bound}
use Rattle.search.specs.Ordered.{walk_by_train, walked_in, searched_in, searched_on_in, searched}
use Rattle.search.specs.Stops.{MeetsLeast, the_total, Sooner, searched_on}
use Rattle.search.proofs.Barred.{permitted_plan}
use Rattle.search.proofs.Totals.{decided_start, decided_next, partial_whole}
use Rattle.search.proofs.Tries.{neither, goes_unmet, Kept, choice_keeps}
use Rattle.search.proofs.Best.{below_best}
use Rattle.search.proofs.Bounds.{parts_meet}
use Rattle.search.proofs.Theorems.{met_bound, place_costs, place_walkable, by_rank, order_is}

-- v met the bound with a plan that none is below; u knows the same, after no fewer tries
pub record Past (s : Shape) (c : Costs) (v u : Walk) : Type 0 where
  pub met : v.met ≡ true
  pub known : v.found ≡ true
  pub lowest : (y : ℕ → ℕ) → IsPlan s y → v.best.0 ≤ total s c y
  pub found : u.found ≡ true
  pub best : u.best ≡ v.best
  pub plan : u.plan ≡ v.plan
  pub tries : v.count ≤ u.count

-- before that the two are equal
pub record Equal (v u : Walk) : Type 0 where
  pub unmet : v.met ≡ false
  pub same : u ≡ v

abbrev pub Beside : Shape → Costs → Walk → Walk → Type 0
Beside s c v u = Equal v u ⊎ Past s c v u

-- a try of one walk by two ways to go on: what holds of both walks after each of the four ways holds after it
try_both : (R : Walk → Walk → Type 0) (budget : ℕ) (bar : Bool) (total : ℕ) (next after : Walk → Walk) (w : Walk)
    → (stopped w ≡ true → R w w)
    → R (marked_spent w) (marked_spent w)
    → R (counted w) (counted w)
    → (stopped w ≡ false → dropped w bar total ≡ false → R (next (counted w)) (after (counted w)))
    → R (one_try budget bar total next w) (one_try budget bar total after w)
unfolding one_try
try_both R budget bar total next after w f g h k = at_stopped (stopped w) refl (eqb w.count budget)
  where
    at_drop : stopped w ≡ false → (d : Bool) → dropped w bar total ≡ d → R (pick_walk d counted (λ v. next (counted v)) w) (pick_walk d counted (λ v. after (counted v)) w)
    at_drop s true e = h
    at_drop s false e = k s e

    at_stopped : (b : Bool) → stopped w ≡ b → (c : Bool)
        → R (pick_walk b (λ v. v) (pick_walk c marked_spent (counted_try bar total next)) w) (pick_walk b (λ v. v) (pick_walk c marked_spent (counted_try bar total after)) w)
    at_stopped true e c = f e
    at_stopped false e true = g
    at_stopped false e false = at_drop e (dropped w bar total) refl

-- a walk that met the bound stands still
stands : (budget : ℕ) (bar : Bool) (total : ℕ) (next : Walk → Walk) (w : Walk) → w.met ≡ true → one_try budget bar total next w ≡ w
unfolding one_try
stands budget bar total next w e = rw e

-- two trains opened choice by choice
tries_beside : (s : Shape) (c : Costs) (one two : ℕ → Walk → Walk) (k a : ℕ) → ((i : ℕ) → i < a + k → (v u : Walk) → Beside s c v u → Beside s c (one i v) (two i u))
    → (v u : Walk) → Beside s c v u → Beside s c (tried_from one k a v) (tried_from two k a u)
unfolding tried_from
tries_beside s c one two zero a h v u b = b
tries_beside s c one two (suc k) a h v u b = tries_beside s c one two k (a + 1) (λ i q. h i (omega arith)) (one a v) (two a u) (h a (omega arith) v u b)

module _ {s : Shape} (o : Walkable s) (c : Costs) (meets : ℕ → Bool) (right : MeetsLeast s c the_total meets) (budget : ℕ) where
  -- trains that are all decided are a plan, with its total
  decided_plan : (total : ℕ) (chosen : List ℕ) → Decided s c s.trains total chosen → IsPlan s (choices_of chosen)
  decided_plan total chosen d = permitted_plan o (choices_of chosen) d.below d.permitted

  decided_total : (m : ℕ) (chosen : List ℕ) → Decided s c s.trains m chosen → total s c (choices_of chosen) ≡ m
  decided_total m chosen d = sym (d.total ∙ partial_whole o c (choices_of chosen))

  -- the walk without the rule keeps its best and its plan, since no plan is lower
  past_kept : (v : Walk) → Kept s c never budget (Past s c v)
  past_kept v =
      record {
        marked = λ u e n k. record { met = k.met; known = k.known; lowest = k.lowest; found = k.found; best = k.best; plan = k.plan; tries = k.tries };
        once = λ u e n k. record { met = k.met; known = k.known; lowest = k.lowest; found = k.found; best = k.best; plan = k.plan; tries = omega (arith, k.tries) };
        whole = λ m chosen u e f d k.
            absurd (omega (
              arith,
              below_best u m f k.found,
              ap (λ (p : Parts). p.0) k.best,
              k.lowest (choices_of chosen) (decided_plan m chosen d),
              decided_total m chosen d,
            ));
      }

  -- a whole plan
  whole_beside : (m : ℕ) (chosen : List ℕ) → Decided s c s.trains m chosen → (w : Walk) → Beside s c (whole_plan meets m chosen w) (whole_plan never m chosen w)
  whole_beside m chosen d w = by (meets m) refl
    where
      by : (b : Bool) → meets m ≡ b → Beside s c (whole_plan meets m chosen w) (whole_plan never m chosen w)
      by true e =
          inr (record {
            met = e;
            known = refl;
            lowest = λ y q. omega (arith, decided_total m chosen d, right.least (choices_of chosen) y (decided_plan m chosen d) q (rw (decided_total m chosen d) e));
            found = refl;
            best = refl;
            plan = refl;
            tries = omega arith;
          })
      by false e = inl (record { unmet = e; same = rw e })

  -- the try of a choice, where opening the next train goes side by side
  next_beside : (left t partial : ℕ) (chosen : List ℕ) → t + suc left ≡ s.trains → Decided s c t partial chosen
      → ((m : ℕ) (with : List ℕ) → Decided s c (t + 1) m with → (w : Walk) → stopped w ≡ false
      → Beside s c (opened_train s c meets budget left (t + 1) m with w) (opened_train s c never budget left (t + 1) m with w))
      → (a : ℕ) → a < s.size t → (v u : Walk) → Beside s c v u
      → Beside s c (choice_try s c budget (opened_train s c meets budget left (t + 1)) t partial chosen a v)
      (choice_try s c budget (opened_train s c never budget left (t + 1)) t partial chosen a u)
  next_beside left t partial chosen e q go a h v u (inl k) =
      rw k.same (try_both (Beside s c) budget _ _ _ _ v (λ f. inl (record { unmet = k.unmet; same = refl }))
      (inl (record { unmet = k.unmet; same = refl })) (inl (record { unmet = k.unmet; same = refl }))
      (λ f g. go _ _ (decided_next o c t a partial chosen (omega arith) h q (neither (barred s (choices_of (set chosen t a)) t) (beaten v (partial + added s c (choices_of (set chosen t a)) t)) g).0) (counted v) f))
  next_beside left t partial chosen e q go a h v u (inr k) =
      rw (stands budget _ _ _ v k.met) (inr (choice_keeps o (past_kept v) left t partial chosen e q a h u k))

  opened_beside : (left t partial : ℕ) (chosen : List ℕ) → t + left ≡ s.trains → Decided s c t partial chosen → (w : Walk) → stopped w ≡ false
      → Beside s c (opened_train s c meets budget left t partial chosen w) (opened_train s c never budget left t partial chosen w)
  unfolding opened_train
  opened_beside zero t partial chosen e q w f = let z : t ≡ s.trains = omega arith in whole_beside partial chosen (rw z at q) w
  opened_beside (suc left) t partial chosen e q w f =
      tries_beside s c _ _ (s.size t) 0
      (λ a h. next_beside left t partial chosen e q (λ m with r. opened_beside left (t + 1) m with (omega arith) r) a (omega arith))
      w w (inl (record { unmet = goes_unmet w f; same = refl }))

  beside : Beside s c (walked s c meets budget) (walked s c never budget)
  unfolding walked
  beside = opened_beside s.trains 0 _ _ (omega arith) (decided_start o c) nothing_tried refl

  -- where no plan's total is below that of one that meets
  pub stopping_keeps : Sooner (walked s c meets budget) (walked s c never budget)
  stopping_keeps = by beside
    where
      by : Beside s c (walked s c meets budget) (walked s c never budget) → Sooner (walked s c meets budget) (walked s c never budget)
      by (inl k) =
          let e = k.same in
          record {
            found = sym (ap (λ (w : Walk). w.found) e);
            best = sym (ap (λ (w : Walk). w.best) e);
            plan = sym (ap (λ (w : Walk). w.plan) e);
            tries = omega (arith, ap (λ (w : Walk). w.count) e);
            ends = λ f. sym (ap (λ (w : Walk). w.spent) e) ∙ f;
            equal = λ f. sym e;
          }
      by (inr k) =
          record {
            found = k.known ∙ sym k.found;
            best = sym k.best;
            plan = sym k.plan;
            tries = k.tries;
            ends = λ f. (met_bound o c meets budget k.met).2;
            equal = λ f. absurd (not_both k.met f);
          }

-- so it is with the plan by trains
sooner_by_train : (n : ℕ) (order : ℕ → ℕ) {v u : Walk} → Sooner v u → Sooner (walk_by_train n order v) (walk_by_train n order u)
sooner_by_train n order e =
    record { found = e.found; best = e.best; plan = ap (by_train n order) e.plan; tries = e.tries; ends = e.ends; equal = λ f. ap (walk_by_train n order) (e.equal f) }

-- the search of a block whose totals are whole points, and whose bound exceeds no plan's cost, with its trains in an order
pub ordered_sooner : {b : List ℤ} → Study b → {order : ℕ → ℕ} → IsOrder (trains b) order → (cost : (ℕ → ℕ) → ℕ)
    → ((x : ℕ → ℕ) → IsPlan (shape_of b) x → (held_total b x ≡ scale b * cost x) × (bound_of b ≤ cost x)) → (budget : ℕ)
    → Sooner (searched_in order b budget) (searched_on_in order b budget)
unfolding walked_in searched_in searched_on_in
ordered_sooner {b} s {order} is cost low budget =
    sooner_by_train (trains b) order
    (stopping_keeps (place_walkable s is) (place_costs order b) (at_bound b)
    (parts_meet (ordered_shape order (shape_of b)) (place_costs order b) (scale b) (scale_range s).0 (bound_of b) (λ y. cost (λ i. y (rank (trains b) order i))) (λ y p. let r = by_rank s is y p in let k = low _ r.0 in (r.1 ∙ k.0, k.1)))
    budget)

-- the search of a block whose totals are whole points, and whose bound exceeds no plan's cost
pub search_sooner : {b : List ℤ} → Study b → (cost : (ℕ → ℕ) → ℕ) → ((x : ℕ → ℕ) → IsPlan (shape_of b) x → (held_total b x ≡ scale b * cost x) × (bound_of b ≤ cost x)) → (budget : ℕ)
    → Sooner (searched b budget) (searched_on b budget)
unfolding searched searched_on
search_sooner {b} s cost low budget = ordered_sooner s (order_is s) cost low budget
