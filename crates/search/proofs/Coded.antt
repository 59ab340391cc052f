-- The walk in the terms of the code: what is left is a difference, the next place is one more, and what a choice adds stands in a row of sums.
use mathlib.Core.Path.{◌≡◌, refl, sym, ap, ap₂, ◌∙◌}
use mathlib.Core.Bool.{Bool, true, false, cond}
use mathlib.Core.List.{List}
use mathlib.Core.Logic.{dite}
use Prim.Native.Nat.{ℕ, ◌+◌, ◌-◌, ◌<◌}
use native.Mathlib.Nat.{sub-zero}
use native.Mathlib.Decide.{ℕ_discrete}
use native.Mathlib.Omega.{arith}
use lib.Dec.{leb, eqb}
use lib.ListN.{length, set}
use lib.Seq.{get_or-set_same}
use borrow.Author.Tests.{ne_eqb}
use Rattle.theory.proofs.Sum.{sum_cong}
use Rattle.tables.specs.Block.{max_trains}
use Rattle.tables.specs.Plans.{Shape, Costs, choices_of}
use Rattle.rows.specs.Walled.{wall}
use Rattle.rows.specs.Limits.{Walkable}
use Rattle.rows.specs.Added.{row_added, sum_below}
use Rattle.rows.proofs.Written.{kept}
use Rattle.search.specs.Walk.{Walk, barred, pair_added, added, Decided, counted, marked_spent, whole_plan, stopped, dropped, one_try, choice_try, opened_train, no_choices, nothing_tried, walked}
use Rattle.search.specs.Sought.{Sought, Searchable, meets_at}
use Rattle.search.specs.Held.{try_of, choice_of, choices_from}
use Rattle.search.proofs.Totals.{decided_start}
use Rattle.search.proofs.Tries.{one_less, tries_cong}
use Rattle.search.proofs.Walled.{comes_added, comes_barred}

-- ---- what a choice adds

-- what choice a of train t adds, with a wall for each forbidden entry, is its sum over all pairs: a pair's first train was decided before
pub added-row : {s : Shape} → Walkable s → (c : Costs) (t a : ℕ) (chosen : List ℕ) → t < s.trains → length chosen ≡ max_trains
    → added s c (choices_of (set chosen t a)) t ≡ sum_below s c (choices_of chosen) t a s.pairs
unfolding added
added-row {s} o c t a chosen h l = ap₂ ◌+◌ (ap (c.choice t) here) (sum_cong s.pairs _ _ at_pair)
  where
    here : choices_of (set chosen t a) t ≡ a
    here = get_or-set_same chosen t a 0 (omega (arith, o.room))

    at_pair : (k : ℕ) → k < s.pairs → pair_added s c (choices_of (set chosen t a)) t k ≡ row_added s c (choices_of chosen) t a k
    at_pair k q =
        dite (ℕ_discrete (s.second k) t)
        (λ (e : s.second k ≡ t). ap (λ (v : ℕ). cond (eqb (s.second k) t) v 0)
        (ap₂ (c.pair k) (kept chosen t a (s.first k) (omega (arith, o.ascends k q))) (ap (choices_of (set chosen t a)) e ∙ here)))
        (λ n. rw (ne_eqb (s.second k) t n))

-- ---- trains and tries

module _ (p : Sought) (budget : ℕ) where
  -- what opening train u does, with the trains from u on left
  abbrev opened_from : ℕ → ℕ → List ℕ → Walk → Walk
  opened_from u = opened_train p.shape p.costs (meets_at p) budget (p.shape.trains - u) u

  whole : (u partial : ℕ) (chosen : List ℕ) (w : Walk) → u ≡ p.shape.trains → opened_from u partial chosen w ≡ whole_plan (meets_at p) partial chosen w
  unfolding opened_train
  whole u partial chosen w e = let z : p.shape.trains - u ≡ 0 = omega arith in rw z

  module _ (o : Searchable p) where
    -- one try: where a forbidden entry is brought in its total is never looked at, elsewhere it is the same
    choice_same : (u partial : ℕ) (chosen : List ℕ) → u < p.shape.trains → Decided p.shape p.costs u partial chosen → (a : ℕ) → a < p.shape.size u → (w : Walk)
        → choice_try p.shape p.costs budget (opened_from (u + 1)) u partial chosen a w ≡ choice_of p budget u partial chosen a w
    unfolding one_try try_of
    choice_same u partial chosen h d a q w = by (barred p.shape (choices_of (set chosen u a)) u) refl
      where
        by : (r : Bool) → barred p.shape (choices_of (set chosen u a)) u ≡ r
            → choice_try p.shape p.costs budget (opened_from (u + 1)) u partial chosen a w ≡ choice_of p budget u partial chosen a w
        by true f = rw (comes_barred o.walkable o.walled u a partial chosen h q d o.low, f)
        by false f =
            rw (
              comes_barred o.walkable o.walled u a partial chosen h q d o.low,
              comes_added o.walkable o.walled u a partial chosen h q d f,
              f,
            )

    pub opens : (u partial : ℕ) (chosen : List ℕ) (w : Walk) → u < p.shape.trains → Decided p.shape p.costs u partial chosen
        → opened_from u partial chosen w ≡ choices_from p budget u 0 partial chosen w
    unfolding opened_train
    opens u partial chosen w h d =
        rw (one_less u p.shape.trains h, sub-zero (p.shape.size u)) (tries_cong _ _ (p.shape.size u) 0 (λ a q. choice_same u partial chosen h d a (omega arith)) w)

    -- the first train
    pub starts : {partial : ℕ} {w : Walk} → 0 < p.shape.trains → partial ≡ p.costs.constant → w ≡ nothing_tried
        → walked p.shape p.costs (meets_at p) budget ≡ choices_from p budget 0 0 partial no_choices w
    unfolding walked
    starts {partial} {w} h e f =
        rw (sub-zero p.shape.trains) at (opens 0 p.costs.constant no_choices nothing_tried h (decided_start o.walkable p.costs))
        ∙ ap₂ (λ (n : ℕ) (v : Walk). choices_from p budget 0 0 n no_choices v) (sym e) (sym f)

  -- one try, by its ways
  module _ (t a total : ℕ) (chosen : List ℕ) (w : Walk) where
    pub try_stopped : stopped w ≡ true → try_of p budget t total chosen a w ≡ w
    unfolding one_try try_of
    try_stopped e = rw e

    module _ (e : stopped w ≡ false) where
      pub try_out : eqb w.count budget ≡ true → try_of p budget t total chosen a w ≡ marked_spent w
      unfolding one_try try_of
      try_out f = rw (e, f)

      module _ (f : eqb w.count budget ≡ false) where
        pub try_dropped : dropped w (leb wall total) total ≡ true → try_of p budget t total chosen a w ≡ counted w
        unfolding one_try try_of
        try_dropped d = rw (e, f, d)

        -- what the next train does with the choices l and the walk v
        module _ {l : List ℕ} {v : Walk} (d : dropped w (leb wall total) total ≡ false) (n : l ≡ set chosen t a) (q : v ≡ counted w) where
          try_next : try_of p budget t total chosen a w ≡ opened_from (t + 1) total l v
          unfolding one_try try_of
          try_next = rw (n, q, e, f, d)

          pub try_whole : t + 1 ≡ p.shape.trains → try_of p budget t total chosen a w ≡ whole_plan (meets_at p) total l v
          try_whole h = try_next ∙ whole (t + 1) total l v h

          pub try_opens : Searchable p → t + 1 < p.shape.trains → Decided p.shape p.costs (t + 1) total l → try_of p budget t total chosen a w ≡ choices_from p budget (t + 1) 0 total l v
          try_opens o h r = try_next ∙ opens o (t + 1) total l v h r
