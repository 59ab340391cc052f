-- The search of a listing: its study is within the limits that the walk asks, and the whole search is the tries of its first train. In loaded order the search is that of the block.
use mathlib.Core.Path.{◌≡◌, sym, ap, ◌∙◌}
use mathlib.Core.Bool.{Bool, true, false, cond}
use mathlib.Core.List.{List}
use Prim.Native.Nat.{ℕ, ◌<◌}
use lib.IntN.{ℤ}
use Rattle.theory.specs.Lists.{nth}
use Rattle.theory.specs.Order.{IsOrder}
use Rattle.theory.proofs.Order.{order_below}
use Rattle.tables.specs.Block.{trains, scale, constant, order}
use Rattle.tables.specs.WellFormed.{Study}
use Rattle.tables.specs.Plans.{Shape, Costs, shape_of, held_costs}
use Rattle.tables.proofs.Study.{trains_range, choice_open_lem, entry_open_lem}
use Rattle.tables.proofs.Plans.{Shaped, study_shaped}
use Rattle.bounds.specs.Bounds.{bound_of}
use Rattle.orders.proofs.Loaded.{own_list}
use Rattle.orders.specs.Ordered.{turned, ordered_shape, ordered_costs}
use Rattle.orders.specs.Listed.{renumbered, renumbered_costs}
use Rattle.orders.proofs.Ordered.{earlier-size, later-size}
use Rattle.orders.proofs.ByTrain.{by_train-cong}
use Rattle.rows.specs.declared.listing.Listing.{Listing}
use Rattle.rows.specs.declared.table.Table.{Table}
use Rattle.rows.specs.Listing.{numbers_of, shape_in, costs_in}
use Rattle.rows.specs.Walled.{wall, walled, walled_costs}
use Rattle.rows.specs.Table.{Laid, Owned}
use Rattle.rows.proofs.Limits.{study_limited, ordered_limited, renumbered_limited, listing_walkable, listing_limited}
use Rattle.search.specs.Walk.{Walk, no_choices, nothing_tried, walked, at_bound}
use Rattle.search.specs.Sought.{Walled, Searchable, sought_in}
use Rattle.search.specs.Ordered.{with_plan, walk_by_train, walked_in, searched_in, searched}
use Rattle.search.specs.Held.{At, choices_from}
use Rattle.search.proofs.Coded.{starts}
use Rattle.search.proofs.Held.{started_at}
use Rattle.search.proofs.Renumbered.{renumbered_walked, order_walked, loaded_walked}

-- ---- walls

-- what H forbids T forbids too
study_walled : {b : List ℤ} → Study b → Walled (shape_of b) (held_costs b) (walled_costs b)
unfolding held_costs walled_costs walled
study_walled s = record { choice = λ i a h q. rw (choice_open_lem s i a h q); entry = λ k a e h p q. rw (entry_open_lem s k h a e p q) }

ordered_walled : {s : Shape} → Shaped s → {order : ℕ → ℕ} → IsOrder s.trains order → {c u : Costs} → Walled s c u → Walled (ordered_shape order s) (ordered_costs order s c) (ordered_costs order s u)
ordered_walled {s} sh {order} is {c} {u} w =
    record {
      choice = λ d a h p. w.choice (order d) a (order_below is d h) p;
      entry = λ k a e h p r. by k a e h (turned order s k) (rw (earlier-size is sh k h) at p) (rw (later-size is sh k h) at r);
    }
  where
    by : (k a e : ℕ) → k < s.pairs → (t : Bool) → a < cond t (s.size (s.second k)) (s.size (s.first k)) → e < cond t (s.size (s.first k)) (s.size (s.second k))
        → cond t (u.pair k e a) (u.pair k a e) ≡ cond (cond t (s.entry_open k e a) (s.entry_open k a e)) (cond t (c.pair k e a) (c.pair k a e)) wall
    by k a e h true p r = w.entry k e a h r p
    by k a e h false p r = w.entry k a e h p r

renumbered_walled : {s : Shape} {q : ℕ → ℕ} → IsOrder s.pairs q → {c u : Costs} → Walled s c u → Walled (renumbered q s) (renumbered_costs q c) (renumbered_costs q u)
renumbered_walled {q = q} is w = record { choice = w.choice; entry = λ k a e h p r. w.entry (q k) a e (order_below is k h) p r }

-- ---- a listing

module _ (l : Listing) where
  -- the limits that the walk asks
  listing_searchable : Searchable (sought_in l)
  listing_searchable =
      let s = l.ordered.study.held in
      record {
        walkable = listing_walkable l;
        low = renumbered_limited l.sorted.once (ordered_limited l.ordered.once (study_limited s));
        high = listing_limited l;
        walled = renumbered_walled l.sorted.once (ordered_walled (study_shaped s) l.ordered.once (study_walled s));
      }

  -- the search starts at the first place, from c0
  pub listing_started : {t : Table} {q : List (List ℕ)} {partial : ℕ} {chosen : List ℕ} → Laid (shape_in l) (costs_in l) (scale (numbers_of l)) (bound_of (numbers_of l)) t → Owned (shape_in l) (costs_in l) q
      → chosen ≡ no_choices → partial ≡ constant (numbers_of l) → At (sought_in l) t q 0 partial chosen
  unfolding held_costs
  listing_started = started_at listing_searchable (trains_range l.ordered.study.held).0

  -- and comes to what the tries of the choices there come to
  pub listing_starts : (budget : ℕ) {partial : ℕ} {w : Walk} → partial ≡ constant (numbers_of l) → w ≡ nothing_tried
      → walked_in (nth l.ordered.order) (numbers_of l) (at_bound (numbers_of l)) budget ≡ choices_from (sought_in l) budget 0 0 partial no_choices w
  unfolding held_costs walked_in
  listing_starts budget e f =
      let b = numbers_of l in
      let order = nth l.ordered.order in
      sym (renumbered_walked (ordered_shape order (shape_of b)) (nth l.list) l.sorted.once (ordered_costs order (shape_of b) (held_costs b)) (at_bound b) budget)
      ∙ starts (sought_in l) budget listing_searchable (trains_range l.ordered.study.held).0 e f

-- ---- orders

-- an order is what it is below n
pub order_searched : (b : List ℤ) {f g : ℕ → ℕ} → ((d : ℕ) → d < trains b → f d ≡ g d) → (budget : ℕ) → searched_in f b budget ≡ searched_in g b budget
unfolding walked_in searched_in
order_searched b {f} {g} same budget =
    ap (walk_by_train (trains b) f) (order_walked (shape_of b) f g same (held_costs b) (at_bound b) budget)
    ∙ ap (with_plan (walked_in g b (at_bound b) budget)) (by_train-cong (trains b) f g same (walked_in g b (at_bound b) budget).plan)

-- ---- loaded order

-- where the trains stand in loaded order, a search is the walk of the study as it is: 'a load sets 0 to n−1', and then nothing differs from document 01
pub loaded_searched : {b : List ℤ} → Study b → ((d : ℕ) → d < trains b → order b d ≡ d) → (budget : ℕ) → searched b budget ≡ walked (shape_of b) (held_costs b) (at_bound b) budget
unfolding walked_in searched_in searched
loaded_searched {b} s own budget =
    let e = loaded_walked (study_shaped s) (order b) own (held_costs b) (at_bound b) budget in
    ap (walk_by_train (trains b) (order b)) e
    ∙ ap (with_plan (walked (shape_of b) (held_costs b) (at_bound b) budget)) (own_list (trains b) (order b) own (walked (shape_of b) (held_costs b) (at_bound b) budget).plan)
