-- The ways of a try, by the numbers that the code holds, and the tries of a train: what an earlier try left at later trains is never looked at.
use mathlib.Core.Path.{◌≡◌, refl, sym, ap, ◌∙◌}
use mathlib.Core.Bool.{Bool, true, false, cond, ◌&&◌, ◌||◌}
use mathlib.Core.List.{List}
use Prim.Native.Nat.{ℕ, zero, suc, ◌+◌, ◌-◌, ◌^◌, ◌<◌, ◌≤◌}
use native.Mathlib.Omega.{arith}
use lib.Dec.{leb, ltb, eqb}
use lib.ListN.{get_or, set}
use borrow.Author.Tests.{lt-ltb, le-ltb, le-leb, leb-false, lt-leb, eq-eqb, ne_eqb}
use Rattle.units.specs.Units.{the_parts}
use Rattle.tables.specs.Block.{max_choices}
use Rattle.tables.specs.Plans.{Shape, Costs, choices_of}
use Rattle.orders.specs.Ordered.{by_train}
use Rattle.rows.specs.Walled.{wall}
use Rattle.rows.specs.Sums.{Steady, Carrying, Sums}
use Rattle.rows.specs.declared.table.Table.{Table}
use Rattle.rows.specs.Links.{row_count}
use Rattle.rows.specs.Table.{sum_at, begin_of, Laid, Owned}
use Rattle.rows.proofs.Rows.{begin_next, steady_refl, steady_trans, steady_less, summed_start, summed_cong, summed_steady, end_sum, end_low}
use Rattle.rows.proofs.Written.{kept}
use Rattle.search.specs.declared.walk.Best.{Best}
use Rattle.search.specs.declared.walk.Search.{Search}
use Rattle.search.specs.Walk.{Walk, Decided, counted, whole_plan, stopped, dropped, no_choices, nothing_tried}
use Rattle.search.specs.Sought.{Sought, Searchable, meets_at}
use Rattle.search.specs.Held.{left_of, walk_of, meets_by, best_by, handed_on, Going, Later, Alike, At, Trying, comes_to, try_of, choices_from}
use Rattle.search.specs.Ordered.{walk_by_train}
use Rattle.search.specs.Start.{no_best}
use Rattle.search.proofs.Totals.{decided_start}
use Rattle.search.proofs.Room.{comes_low}
use Rattle.search.proofs.Walled.{comes_decided}
use Rattle.search.proofs.Alike.{alike_refl, alike_trans, alike_less, alike_set, alike_next, try_alike, decided_alike}
use Rattle.search.proofs.Tries.{more_left}
use Rattle.search.proofs.Coded.{added-row, try_stopped, try_out, try_dropped, try_whole, try_opens}

-- walks whose numbers agree
same_walk : {c d : ℕ} {s r m n f g : Bool} {t u : ℕ} (plan : List ℕ) → c ≡ d → s ≡ r → m ≡ n → f ≡ g → t ≡ u
    → ◌≡◌ {A = Walk} (record { count = c; spent = s; met = m; found = f; best = the_parts t; plan = plan }) (record { count = d; spent = r; met = n; found = g; best = the_parts u; plan = plan })
same_walk plan p q o k e = λ i. record { count = p i; spent = q i; met = o i; found = k i; best = the_parts (e i); plan = plan }

-- the bound and the scale in the table are those of what is sought
pub laid-meets : (s : Sought) {l : Table} → Laid s.shape s.walls s.scale s.bound l → (total : ℕ) → meets_by l total ≡ meets_at s total
laid-meets s p total = rw (p.scale_held, p.bound_held)

-- ---- a plan that becomes the best

module _ (meets : Bool) (total rest : ℕ) (chosen : List ℕ) where
  -- what is left stays
  pub becomes_left : left_of (handed_on meets rest) (best_by meets total rest chosen) ≡ rest
  becomes_left = by meets
    where
      by : (m : Bool) → cond m 0 rest + cond m rest 0 ≡ rest
      by true = omega arith
      by false = omega arith

  -- with a try left, the bound is met where the plan meets it
  becomes_met : 0 < rest → ltb 0 (cond meets rest 0) ≡ meets
  becomes_met h = by meets
    where
      by : (m : Bool) → ltb 0 (cond m rest 0) ≡ m
      by true = lt-ltb 0 rest h
      by false = refl

  pub becomes_going : total ≤ wall → Going (handed_on meets rest) (best_by meets total rest chosen)
  becomes_going h = record { unmet = by meets; low = h }
    where
      by : (m : Bool) → 0 < cond m 0 rest → cond m rest 0 ≡ 0
      by true q = absurd (omega arith)
      by false q = refl

module _ (s : Sought) (budget t a total left : ℕ) (best : Best) (chosen : List ℕ) (most : left_of left best ≤ budget + 1) (going : Going left best) where
  -- stopped, or nothing left
  pub held_out : left ≤ 1 → walk_of budget 0 best ≡ try_of s budget t total chosen a (walk_of budget left best)
  unfolding walk_of
  held_out h = by left h going.unmet
    where
      still : (n : ℕ) → ltb 0 n || eqb (0 + n) 0 ≡ true
      still zero = refl
      still (suc n) = rw (lt-ltb 0 (suc n) (omega arith))

      by : (l : ℕ) → l ≤ 1 → (0 < l → best.left_then ≡ 0) → walk_of budget 0 best ≡ try_of s budget t total chosen a (walk_of budget l best)
      by zero q f = sym (try_stopped s budget t a total chosen (walk_of budget 0 best) (still (best.left_then)))
      by (suc zero) q f =
          let z : best.left_then ≡ 0 = f (omega arith) in
          same_walk best.plan (omega arith) (eq-eqb (left_of 0 best) 0 (omega arith)) refl refl refl
          ∙ sym (try_out s budget t a total chosen (walk_of budget 1 best) (rw (le-ltb 0 (best.left_then) (omega arith)) (ne_eqb (left_of 1 best) 0 (λ e. omega arith)))
          (eq-eqb (budget - (left_of 1 best - 1)) budget (omega arith)))
      by (suc (suc l)) q f = absurd (omega arith)

  module _ (more : 1 < left) where
    goes_on : stopped (walk_of budget left best) ≡ false
    unfolding walk_of
    goes_on = let z : best.left_then ≡ 0 = going.unmet (omega arith) in rw (le-ltb 0 (best.left_then) (omega arith)) (ne_eqb (left_of left best) 0 (λ e. omega arith))

    within : eqb (walk_of budget left best).count budget ≡ false
    unfolding walk_of
    within = ne_eqb (budget - (left_of left best - 1)) budget (λ e. omega arith)

    once : walk_of budget (left - 1) best ≡ counted (walk_of budget left best)
    unfolding walk_of
    once = same_walk best.plan (omega arith) (ne_eqb (left_of (left - 1) best) 0 (λ e. omega arith) ∙ sym (ne_eqb (left_of left best) 0 (λ e. omega arith))) refl refl refl

    pub held-dropped : best.to_beat ≤ total → walk_of budget (left - 1) best ≡ try_of s budget t total chosen a (walk_of budget left best)
    unfolding walk_of
    held-dropped h = once ∙ sym (try_dropped s budget t a total chosen (walk_of budget left best) goes_on within drops)
      where
        -- at the wall, or at a known best
        by : (r : Bool) → leb wall total ≡ r → dropped (walk_of budget left best) r total ≡ true
        by true e = refl
        by false e = let l : total < wall = leb-false wall total e in rw (lt-ltb (best.to_beat) wall (omega arith)) (le-leb (best.to_beat) total h)

        drops : dropped (walk_of budget left best) (leb wall total) total ≡ true
        drops = by (leb wall total) refl

    module _ (less : total < best.to_beat) where
      goes : dropped (walk_of budget left best) (leb wall total) total ≡ false
      unfolding walk_of
      goes = rw (lt-leb wall total (omega (arith, going.low))) (by (ltb (best.to_beat) wall) refl)
        where
          by : (k : Bool) → ltb (best.to_beat) wall ≡ k → k && leb (cond k (best.to_beat) 0) total ≡ false
          by true e = lt-leb (best.to_beat) total less
          by false e = refl

      pub held_whole : (m : Bool) → m ≡ meets_at s total → t + 1 ≡ s.shape.trains
          → walk_of budget (handed_on m (left - 1)) (best_by m total (left - 1) (set chosen t a)) ≡ try_of s budget t total chosen a (walk_of budget left best)
      unfolding walk_of
      held_whole m k h = better ∙ sym (try_whole s budget t a total chosen (walk_of budget left best) goes_on within goes refl once h)
        where
          below : ltb total wall ≡ true
          below = lt-ltb total wall (omega (arith, going.low))

          better : walk_of budget (handed_on m (left - 1)) (best_by m total (left - 1) (set chosen t a)) ≡ whole_plan (meets_at s) total (set chosen t a) (walk_of budget (left - 1) best)
          better =
              let z : best.left_then ≡ 0 = going.unmet (omega arith) in
              let f : left_of (handed_on m (left - 1)) (best_by m total (left - 1) (set chosen t a)) ≡ left_of (left - 1) best = omega (arith, becomes_left m total (left - 1) (set chosen t a)) in
              same_walk (set chosen t a) (ap (λ (n : ℕ). budget - (n - 1)) f) (ap (λ (n : ℕ). eqb n 0) f) (becomes_met m total (left - 1) (set chosen t a) (omega arith) ∙ k) below (rw below)

      pub held_opens : {w : Walk} → Searchable s → t + 1 < s.shape.trains → Decided s.shape s.costs (t + 1) total (set chosen t a) → w ≡ choices_from s budget (t + 1) 0 total (set chosen t a) (walk_of budget (left - 1) best)
          → w ≡ try_of s budget t total chosen a (walk_of budget left best)
      held_opens o h d e = e ∙ sym (try_opens s budget t a total chosen (walk_of budget left best) goes_on within goes refl once o h d)

-- nothing tried, and a try left for each of the budget
pub held_start : (budget : ℕ) → walk_of budget (budget + 1) no_best ≡ nothing_tried
unfolding walk_of
held_start budget = same_walk no_choices (omega arith) (ne_eqb (budget + 1 + 0) 0 (λ e. omega arith)) refl refl refl

-- the plan by trains
pub held_by_train : (budget left : ℕ) (best : Best) (n : ℕ) (order : ℕ → ℕ) {plan : List ℕ} → plan ≡ by_train n order best.plan
    → walk_of budget left (record { to_beat = best.to_beat; left_then = best.left_then; plan = plan }) ≡ walk_by_train n order (walk_of budget left best)
unfolding walk_of
held_by_train budget left best n order e = rw e

-- ---- where a try stands

module _ {s : Sought} {l : Table} {q r : List (List ℕ)} {t partial a sum : ℕ} {x y : List ℕ} (p : At s l q t partial x) (h : a < s.shape.size t) (e : sum ≡ comes_to s t partial x a)
    (k : Alike t l.trains x y) (u : Steady (begin_of l t) q r) where
  -- the choices and the rows of the trains left may be any
  pub trying_at : Trying s l r t a sum y
  trying_at =
      let o = p.searchable in
      let g = alike_next a p.train (omega (arith, p.train, o.walkable.room, p.decided.whole)) (rw p.laid.trains_held at k) in
      record {
        searchable = o;
        laid = p.laid;
        train = p.train;
        choice = h;
        decided = λ low.
            decided_alike o.walkable s.costs (t + 1) s.shape.trains _ _ _ g
            (rw e (comes_decided o.walkable o.walled t a partial x p.train h p.decided (omega (arith, e))));
        summed = summed_cong s.shape s.walls (choices_of x) (choices_of y) r t (begin_of l t) (p.laid.begins t (omega (arith, p.train))) k.before
            (summed_steady s.shape s.walls (choices_of x) q r (begin_of l t) o.walkable.room u p.summed);
      }

  -- from the tries of the choices from a on to those after a
  pub tries_next : (budget : ℕ) (v w : Walk) → v ≡ try_of s budget t sum y a w → choices_from s budget t (a + 1) partial x v ≡ choices_from s budget t a partial x w
  tries_next budget v w g =
      let f = g ∙ sym (try_alike s p.searchable.walkable budget t a sum x y p.train p.decided.whole (rw p.laid.trains_held at k) w) ∙ ap (λ (z : ℕ). try_of s budget t z x a w) e in
      rw f (sym (more_left _ _ _ _ h))

-- what choice a comes to stands in the train's row
pub at_row : {s : Sought} {l : Table} {q r : List (List ℕ)} {t partial : ℕ} {x : List ℕ} → At s l q t partial x → Steady (begin_of l t) q r → (a : ℕ) → a < max_choices
    → partial + sum_at r (get_or l.ends t 0) a ≡ comes_to s t partial x a
at_row {s} {l} {q} {r} {t} {partial} {x} p u a h =
    let o = p.searchable.walkable in
    let g = p.laid.begins t (omega (arith, p.train)) in
    let e = p.laid.ends t p.train in
    let low = end_low o t (begin_of l t) (get_or l.ends t 0) p.train g e in
    omega (
      arith,
      ap (λ (row : List ℕ). get_or row a 0) (u.stays (get_or l.ends t 0) (omega arith)),
      end_sum o s.walls (choices_of x) q t (begin_of l t) (get_or l.ends t 0) a p.train h g e p.summed,
      added-row o s.walls t a x p.train p.decided.whole,
    )

-- so the row, with the partial total, is what the choices come to
pub at_sums : {s : Sought} {l : Table} {q : List (List ℕ)} {t partial : ℕ} {x row : List ℕ} → At s l q t partial x
    → Sums (λ a. partial + sum_at q (get_or l.ends t 0) a) row → Sums (comes_to s t partial x) row
at_sums p r = record { whole = r.whole; each = λ a h. r.each a h ∙ at_row p (steady_refl _ _) a h }

-- and it fits a number of 64 bits
pub at_room : {s : Sought} {l : Table} {q r : List (List ℕ)} {t partial : ℕ} {x : List ℕ} → At s l q t partial x → Steady (begin_of l t) q r → (a : ℕ) → a < max_choices
    → partial + sum_at r (get_or l.ends t 0) a < 2 ^ 63
at_room {s} {l} {q} {r} {t} {partial} {x} p u a h =
    let o = p.searchable in
    omega (arith, at_row p u a h, comes_low o.walkable o.low o.high t a partial x p.train h p.decided)

-- the train's row is one of the sums
pub at_place : {s : Sought} {l : Table} {q : List (List ℕ)} {t partial : ℕ} {x : List ℕ} → At s l q t partial x → get_or l.ends t 0 < row_count
at_place {s} {l} {q} {t} {partial} {x} p =
    let o = p.searchable in
    let g = p.laid.begins t (omega (arith, p.train)) in
    omega (arith, end_low o.walkable t (begin_of l t) (get_or l.ends t 0) p.train g (p.laid.ends t p.train), g.high, o.low.pairs)

-- a choice that is written, before it is carried: with no forbidden entry
pub carrying_at : {s : Sought} {l : Table} {q : List (List ℕ)} {t a total : ℕ} {x : List ℕ} → Trying s l q t a total x → total < wall → Carrying s.shape s.walls s.scale s.bound l q t (set x t a)
carrying_at {s} {l} {q} {t} {a} {total} {x} p low =
    record {
      walkable = p.searchable.walkable;
      limited = p.searchable.high;
      laid = p.laid;
      train = p.train;
      below = (p.decided low).below;
      summed = summed_cong s.shape s.walls (choices_of x) (choices_of (set x t a)) q t (begin_of l t) (p.laid.begins t (omega (arith, p.train))) (λ i h. sym (kept x t a i h)) p.summed;
    }

-- where a search starts
pub started_at : {s : Sought} {l : Table} {q : List (List ℕ)} {partial : ℕ} {chosen : List ℕ} → Searchable s → 0 < s.shape.trains → Laid s.shape s.walls s.scale s.bound l → Owned s.shape s.walls q
    → chosen ≡ no_choices → partial ≡ s.costs.constant → At s l q 0 partial chosen
started_at {s} o h l w f e =
    record {
      searchable = o;
      laid = l;
      train = h;
      decided = rw (f, e) (decided_start o.walkable s.costs);
      summed = summed_start _ (l.begins 0 (omega arith)) w;
    }

-- ---- where a search stands later

pub later_refl : {s : Search} {t left : ℕ} → Going left s.best → Later s t left left s
later_refl g = record { table = refl; fewer = omega arith; going = g; kept = alike_refl _ _ _; steady = steady_refl _ _ }

pub later_trans : {s s₁ s₂ : Search} {t left left₁ left₂ : ℕ} → Later s t left left₁ s₁ → Later s₁ t left₁ left₂ s₂ → Later s t left left₂ s₂
later_trans e f =
    record {
      table = f.table ∙ e.table;
      fewer = omega (arith, e.fewer, f.fewer);
      going = f.going;
      kept = alike_trans e.kept (rw e.table at f.kept);
      steady = steady_trans e.steady (rw e.table at f.steady);
    }

-- a train's choice is tried after others
pub trying_later : {g : Sought} {s s₁ : Search} {t partial left left₁ a sum : ℕ} → At g s.table.now s.sums t partial s.chosen → a < g.shape.size t → sum ≡ comes_to g t partial s.chosen a
    → Later s t left left₁ s₁ → Trying g s₁.table.now s₁.sums t a sum s₁.chosen
trying_later p h g e = rw e.table (trying_at p h g e.kept e.steady)

-- where the next train's tries lead from here, with its choice written and carried
pub later_opens : {h : Shape} {c : Costs} {scale bound : ℕ} {s s₁ : Search} {q : List (List ℕ)} {t left left₁ : ℕ} (a : ℕ) → Laid h c scale bound s.table.now → t < h.trains → Steady (begin_of s.table.now t) s.sums q
    → 0 < left → Later (record s { sums = q; chosen = set s.chosen t a }) (t + 1) (left - 1) left₁ s₁ → Later s t left left₁ s₁
later_opens {h} {c} {scale} {bound} {s} {s₁} {q} {t} a l n d g r =
    record {
      table = r.table;
      fewer = omega (arith, r.fewer);
      going = r.going;
      kept = alike_trans (alike_set _ _ _ _ (omega (arith, l.trains_held))) (alike_less r.kept);
      steady = steady_trans d (steady_less (begin_next h t _ _ (l.begins t (omega arith)) (l.begins (t + 1) (omega arith))) r.steady);
    }
