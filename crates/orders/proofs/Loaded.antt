-- In the order of loading nothing changes: each train is at its own place, no pair is turned over, and a list by places is one by trains.
use mathlib.Core.Path.{◌≡◌, refl, sym, ap, ◌∙◌}
use mathlib.Core.Bool.{Bool, true, false, cond}
use mathlib.Core.List.{List}
use Prim.Native.Nat.{ℕ, ◌<◌}
use native.Mathlib.Omega.{arith}
use lib.Dec.{ltb}
use borrow.Author.Tests.{le-ltb, ltb-true}
use Rattle.theory.specs.Lists.{nth}
use Rattle.theory.specs.Order.{rank, ascending}
use Rattle.theory.proofs.Lists.{list_is}
use Rattle.theory.proofs.Order.{rank_order, order_cong, ascending_order}
use Rattle.tables.specs.Plans.{Shape, Costs, AlikeShapes}
use Rattle.tables.proofs.Plans.{Shaped}
use Rattle.orders.specs.Ordered.{place_of, turned, ordered_shape, ordered_costs, by_train}

-- an order that has each of n numbers at its own place
module _ (n : ℕ) (order : ℕ → ℕ) (own : (d : ℕ) → d < n → order d ≡ d) where
  pub own_rank : (i : ℕ) → i < n → rank n order i ≡ i
  own_rank i h = ap (rank n order) (sym (own i h)) ∙ rank_order (order_cong ascending order (λ d q. sym (own d q)) (ascending_order n)) i h

  pub own_list : (l : List ℕ) → by_train n order l ≡ l
  unfolding by_train
  own_list l = list_is _ _ l refl (λ t h. ap (nth l) (by t (ltb t n) refl))
    where
      by : (t : ℕ) (z : Bool) → ltb t n ≡ z → cond z (rank n order t) t ≡ t
      by t true e = own_rank t (ltb-true t n e)
      by t false e = refl

module _ {s : Shape} (sh : Shaped s) (order : ℕ → ℕ) (own : (d : ℕ) → d < s.trains → order d ≡ d) where
  -- a pair stands as it is
  pub record Straight (k : ℕ) : Type 0 where
    pub unturned : turned order s k ≡ false
    pub first_own : place_of order s (s.first k) ≡ s.first k
    pub second_own : place_of order s (s.second k) ≡ s.second k

  pub straight : (k : ℕ) → k < s.pairs → Straight k
  straight k h =
      let f = own_rank s.trains order own (s.first k) (omega (arith, sh.ascends k h, sh.inside k h)) in
      let g = own_rank s.trains order own (s.second k) (sh.inside k h) in
      record { unturned = le-ltb (place_of order s (s.second k)) (place_of order s (s.first k)) (omega (arith, f, g, sh.ascends k h)); first_own = f; second_own = g }

  -- the ordered study is the study itself, where it is used
  pub loaded_shape : AlikeShapes (ordered_shape order s) s
  loaded_shape =
      record {
        trains_same = refl;
        sizes_same = λ i h. ap s.size (own i h);
        pairs_same = refl;
        firsts_same = λ k h. let z = straight k h in rw (z.unturned, z.first_own);
        seconds_same = λ k h. let z = straight k h in rw (z.unturned, z.second_own);
        choices_open_same = λ i a h q. ap (λ (t : ℕ). s.choice_open t a) (own i h);
        entries_open_same = λ k a c h p q. let z = straight k h in rw z.unturned;
      }

  -- so are its costs
  pub loaded_choice : (t : Costs) (i a : ℕ) → i < s.trains → (ordered_costs order s t).choice i a ≡ t.choice i a
  loaded_choice t i a h = ap (λ (j : ℕ). t.choice j a) (own i h)

  pub loaded_entry : (t : Costs) (k a c : ℕ) → k < s.pairs → (ordered_costs order s t).pair k a c ≡ t.pair k a c
  loaded_entry t k a c h = let z = straight k h in rw z.unturned
