-- What a train adds, and what bars it, are a sum and a test over all pairs, whatever their numbers: so a walk over a list of them is the same. And in the order of loading each train adds and is barred as it is.
use mathlib.Core.Path.{◌≡◌, refl, ap, ap₂, ◌∙◌}
use mathlib.Core.Bool.{Bool, not, ◌&&◌}
use mathlib.Core.List.{List}
use Prim.Native.Nat.{ℕ, zero, suc, ◌+◌, ◌<◌}
use native.Mathlib.Omega.{arith}
use lib.ListN.{set}
use Rattle.theory.specs.Order.{IsOrder}
use Rattle.theory.proofs.Order.{rank_cong, sum_reorder, all_reorder}
use Rattle.theory.proofs.Sum.{sum_cong}
use Rattle.theory.proofs.Range.{all_cong}
use Rattle.tables.specs.Plans.{choices_of, Shape, Costs}
use Rattle.tables.proofs.Plans.{Shaped}
use Rattle.orders.specs.Ordered.{ordered_shape, ordered_costs}
use Rattle.orders.specs.Listed.{renumbered, renumbered_costs}
use Rattle.orders.proofs.Loaded.{straight}
use Rattle.search.specs.Walk.{Walk, entry_passes, barred, pair_added, added, one_try, tried_from, choice_try, no_choices, nothing_tried, opened_train, walked}

-- two studies of the same trains and sizes, in which each train adds the same and is barred alike
pub record SameSteps (s u : Shape) (c d : Costs) : Type 0 where
  pub sizes : (t : ℕ) → t < s.trains → s.size t ≡ u.size t
  pub adds : (x : ℕ → ℕ) (t : ℕ) → t < s.trains → added s c x t ≡ added u d x t
  pub bars : (x : ℕ → ℕ) (t : ℕ) → t < s.trains → barred s x t ≡ barred u x t

module _ {s u : Shape} {c d : Costs} (e : SameSteps s u c d) (meets : ℕ → Bool) (budget : ℕ) where
  same_try : (f g : ℕ → List ℕ → Walk → Walk) (t partial : ℕ) (chosen : List ℕ) (a : ℕ) → t < s.trains → ((total : ℕ) (with : List ℕ) (v : Walk) → f total with v ≡ g total with v)
      → (v : Walk) → choice_try s c budget f t partial chosen a v ≡ choice_try u d budget g t partial chosen a v
  same_try f g t partial chosen a l h v =
      let with = set chosen t a in
      let total = partial + added u d (choices_of with) t in
      ap₂ (λ (r : Bool) (z : ℕ). one_try budget r (partial + z) (f (partial + z) with) v) (e.bars (choices_of with) t l) (e.adds (choices_of with) t l)
      ∙ (λ i. one_try budget (barred u (choices_of with) t) total (λ w. h total with w i) v)

  same_opened : (left t partial : ℕ) (chosen : List ℕ) (w : Walk) → t + left ≡ s.trains → opened_train s c meets budget left t partial chosen w ≡ opened_train u d meets budget left t partial chosen w
  unfolding opened_train
  same_opened zero t partial chosen w h = refl
  same_opened (suc left) t partial chosen w h =
      (λ i. tried_from (λ a v. same_try (opened_train s c meets budget left (t + 1)) (opened_train u d meets budget left (t + 1)) t partial chosen a (omega arith)
      (λ total with z. same_opened left (t + 1) total with z (omega arith)) v i) (s.size t) 0 w)
      ∙ ap (λ (n : ℕ). tried_from (choice_try u d budget (opened_train u d meets budget left (t + 1)) t partial chosen) n 0 w) (e.sizes t (omega arith))

  pub same_walked : s.trains ≡ u.trains → c.constant ≡ d.constant → walked s c meets budget ≡ walked u d meets budget
  unfolding walked
  same_walked p q =
      ap₂ (λ (n z : ℕ). opened_train s c meets budget n 0 z no_choices nothing_tried) p q ∙ same_opened u.trains 0 d.constant no_choices nothing_tried (omega arith)

-- pairs with other numbers
module _ (s : Shape) (q : ℕ → ℕ) (is : IsOrder s.pairs q) (c : Costs) where
  renumbered_steps : SameSteps (renumbered q s) s (renumbered_costs q c) c
  unfolding added barred
  renumbered_steps =
      record {
        sizes = λ t h. refl;
        adds = λ x t h. ap (λ (v : ℕ). c.choice t (x t) + v) (sum_reorder is (pair_added s c x t));
        bars = λ x t h. ap (λ (v : Bool). not (s.choice_open t (x t) && v)) (all_reorder is (entry_passes s x t));
      }

  pub renumbered_walked : (meets : ℕ → Bool) (budget : ℕ) → walked (renumbered q s) (renumbered_costs q c) meets budget ≡ walked s c meets budget
  renumbered_walked meets budget = same_walked renumbered_steps meets budget refl refl

-- an order is what it is below n
module _ (s : Shape) (f g : ℕ → ℕ) (same : (d : ℕ) → d < s.trains → f d ≡ g d) (c : Costs) where
  order_steps : SameSteps (ordered_shape f s) (ordered_shape g s) (ordered_costs f s c) (ordered_costs g s c)
  unfolding added barred
  order_steps =
      record {
        sizes = λ t h. ap s.size (same t h);
        adds = λ x t h.
            ap₂ ◌+◌ (ap (λ (i : ℕ). c.choice i (x t)) (same t h)) (sum_cong s.pairs _ _ (λ k q. rw (rank_cong same (s.first k), rank_cong same (s.second k))));
        bars = λ x t h.
            ap not (ap₂ ◌&&◌ (ap (λ (i : ℕ). s.choice_open i (x t)) (same t h)) (all_cong s.pairs _ _ (λ k q. rw (rank_cong same (s.first k), rank_cong same (s.second k)))));
      }

  pub order_walked : (meets : ℕ → Bool) (budget : ℕ) → walked (ordered_shape f s) (ordered_costs f s c) meets budget ≡ walked (ordered_shape g s) (ordered_costs g s c) meets budget
  order_walked meets budget = same_walked order_steps meets budget refl refl

-- an order that has each train at its own place: a walk tells no difference
module _ {s : Shape} (sh : Shaped s) (order : ℕ → ℕ) (own : (d : ℕ) → d < s.trains → order d ≡ d) (c : Costs) where
  loaded_steps : SameSteps (ordered_shape order s) s (ordered_costs order s c) c
  unfolding added barred
  loaded_steps =
      record {
        sizes = λ t h. ap s.size (own t h);
        adds = λ x t h.
            ap₂ ◌+◌ (ap (λ (i : ℕ). c.choice i (x t)) (own t h))
            (sum_cong s.pairs _ _ (λ k q. let z = straight sh order own k q in rw (z.unturned, z.first_own, z.second_own)));
        bars = λ x t h.
            ap not (ap₂ ◌&&◌ (ap (λ (i : ℕ). s.choice_open i (x t)) (own t h))
            (all_cong s.pairs _ _ (λ k q. let z = straight sh order own k q in rw (z.unturned, z.first_own, z.second_own))));
      }

  pub loaded_walked : (meets : ℕ → Bool) (budget : ℕ) → walked (ordered_shape order s) (ordered_costs order s c) meets budget ≡ walked s c meets budget
  loaded_walked meets budget = same_walked loaded_steps meets budget refl refl
