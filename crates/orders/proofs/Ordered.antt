-- The ordered study is a study like any other, and has the same plans, each with the same total: so every law of the walk holds of it, and says the same of the study itself.
use mathlib.Core.Path.{◌≡◌, refl, sym, ap, ap₂, subst, ◌∙◌}
use mathlib.Core.Bool.{Bool, true, false, cond}
use Prim.Native.Nat.{ℕ, ◌<◌}
use native.Mathlib.Omega.{arith}
use borrow.Author.Tests.{ltb-true, ltb-false}
use Rattle.theory.specs.Order.{IsOrder}
use Rattle.theory.proofs.Order.{order_below, rank_below, rank_order, order_rank, sum_reorder}
use Rattle.theory.proofs.Sum.{sum_cong}
use Rattle.tables.specs.Plans.{Shape, Costs, IsPlan, Open, choice_total, pair_total, total}
use Rattle.tables.proofs.Plans.{Shaped}
use Rattle.orders.specs.Ordered.{place_of, turned, earlier, later, ordered_shape, ordered_costs}

module _ {order : ℕ → ℕ} {s : Shape} (is : IsOrder s.trains order) (sh : Shaped s) where
  first_inside : (k : ℕ) → k < s.pairs → s.first k < s.trains
  first_inside k h = omega (arith, sh.ascends k h, sh.inside k h)

  -- two trains at one place are one train
  place_apart : (i j : ℕ) → i < s.trains → j < s.trains → place_of order s i ≡ place_of order s j → i ≡ j
  place_apart i j p q e = sym (order_rank is i p) ∙ ap order e ∙ order_rank is j q

  differ : (k : ℕ) → k < s.pairs → place_of order s (s.first k) ≡ place_of order s (s.second k) → ⊥
  differ k h q = omega (arith, sh.ascends k h, place_apart (s.first k) (s.second k) (first_inside k h) (sh.inside k h) q)

  -- a pair's places, the earlier first
  record Places (k : ℕ) : Type 0 where
    earlier_below : earlier order s k < s.trains
    later_below : later order s k < s.trains
    ascends : earlier order s k < later order s k

  places : (k : ℕ) → k < s.pairs → Places k
  places k h = go (turned order s k) refl
    where
      go : (t : Bool) → turned order s k ≡ t → Places k
      go true e =
          record {
            earlier_below = rw e (rank_below is (s.second k) (sh.inside k h));
            later_below = rw e (rank_below is (s.first k) (first_inside k h));
            ascends = rw e (ltb-true _ _ e);
          }
      go false e =
          record {
            earlier_below = rw e (rank_below is (s.first k) (first_inside k h));
            later_below = rw e (rank_below is (s.second k) (sh.inside k h));
            ascends =
                rw e (omega (arith, ltb-false (place_of order s (s.second k)) (place_of order s (s.first k)) e, differ k h));
          }

  -- two pairs with the same places have the same trains: none is turned over against the other, since trains ascend in both
  same_pair : (k l : ℕ) → k < s.pairs → l < s.pairs → earlier order s k ≡ earlier order s l → later order s k ≡ later order s l → k ≡ l
  same_pair k l h q e f = go (turned order s k) (turned order s l) refl refl
    where
      go : (t u : Bool) → turned order s k ≡ t → turned order s l ≡ u → k ≡ l
      go true true a b =
          sh.apart k l h q (place_apart (s.first k) (s.first l) (first_inside k h) (first_inside l q) (rw (a, b) at f))
          (place_apart (s.second k) (s.second l) (sh.inside k h) (sh.inside l q) (rw (a, b) at e))
      go false false a b =
          sh.apart k l h q (place_apart (s.first k) (s.first l) (first_inside k h) (first_inside l q) (rw (a, b) at e))
          (place_apart (s.second k) (s.second l) (sh.inside k h) (sh.inside l q) (rw (a, b) at f))
      go true false a b =
          absurd
          (omega (
            arith,
            sh.ascends k h,
            sh.ascends l q,
            place_apart (s.second k) (s.first l) (sh.inside k h) (first_inside l q) (rw (a, b) at e),
            place_apart (s.first k) (s.second l) (first_inside k h) (sh.inside l q) (rw (a, b) at f),
          ))
      go false true a b =
          absurd
          (omega (
            arith,
            sh.ascends k h,
            sh.ascends l q,
            place_apart (s.first k) (s.second l) (first_inside k h) (sh.inside l q) (rw (a, b) at e),
            place_apart (s.second k) (s.first l) (sh.inside k h) (first_inside l q) (rw (a, b) at f),
          ))

  -- all that the laws of the walk ask of a shape
  pub ordered_shaped : Shaped (ordered_shape order s)
  ordered_shaped =
      record {
        filled = λ d h. sh.filled (order d) (order_below is d h);
        ascends = λ k h. (places k h).ascends;
        inside = λ k h. (places k h).later_below;
        apart = same_pair;
      }

  -- ---- sizes

  -- a pair's places are those of its trains: their sizes are by trains again
  pub earlier-size : (k : ℕ) → k < s.pairs → s.size (order (earlier order s k)) ≡ cond (turned order s k) (s.size (s.second k)) (s.size (s.first k))
  earlier-size k h = by (turned order s k)
    where
      by : (t : Bool) → s.size (order (cond t (place_of order s (s.second k)) (place_of order s (s.first k)))) ≡ cond t (s.size (s.second k)) (s.size (s.first k))
      by true = ap s.size (order_rank is (s.second k) (sh.inside k h))
      by false = ap s.size (order_rank is (s.first k) (first_inside k h))

  pub later-size : (k : ℕ) → k < s.pairs → s.size (order (later order s k)) ≡ cond (turned order s k) (s.size (s.first k)) (s.size (s.second k))
  later-size k h = by (turned order s k)
    where
      by : (t : Bool) → s.size (order (cond t (place_of order s (s.first k)) (place_of order s (s.second k)))) ≡ cond t (s.size (s.first k)) (s.size (s.second k))
      by true = ap s.size (order_rank is (s.first k) (first_inside k h))
      by false = ap s.size (order_rank is (s.second k) (sh.inside k h))

  -- ---- choices by trains, x, and the same choices by places, y

  module _ (x y : ℕ → ℕ) (same : (t : ℕ) → t < s.trains → x t ≡ y (place_of order s t)) where
    at_place : (d : ℕ) → d < s.trains → y d ≡ x (order d)
    at_place d h = sym (same (order d) (order_below is d h) ∙ ap y (rank_order is d h))

    -- what is said of a pair's two choices
    pair_same : {A : Type 0} (f : ℕ → ℕ → A) (k : ℕ) → k < s.pairs
        → cond (turned order s k) (f (y (later order s k)) (y (earlier order s k))) (f (y (earlier order s k)) (y (later order s k))) ≡ f (x (s.first k)) (x (s.second k))
    pair_same f k h = by (turned order s k)
      where
        i : ℕ
        i = place_of order s (s.first k)

        j : ℕ
        j = place_of order s (s.second k)

        by : (t : Bool) → cond t (f (y (cond t i j)) (y (cond t j i))) (f (y (cond t j i)) (y (cond t i j))) ≡ f (x (s.first k)) (x (s.second k))
        by true = ap₂ f (sym (same (s.first k) (first_inside k h))) (sym (same (s.second k) (sh.inside k h)))
        by false = ap₂ f (sym (same (s.first k) (first_inside k h))) (sym (same (s.second k) (sh.inside k h)))

    -- they have the same total
    pub ordered_total : (t : Costs) → total (ordered_shape order s) (ordered_costs order s t) y ≡ total s t x
    unfolding total choice_total pair_total
    ordered_total t =
        omega (
          arith,
          sum_cong s.trains (λ d. t.choice (order d) (y d)) (λ d. t.choice (order d) (x (order d))) (λ d h. ap (t.choice (order d)) (at_place d h)),
          sum_reorder is (λ i. t.choice i (x i)),
          sum_cong s.pairs (λ k. (ordered_costs order s t).pair k (y (earlier order s k)) (y (later order s k))) (λ k. t.pair k (x (s.first k)) (x (s.second k))) (λ k h. pair_same (t.pair k) k h),
        )

    -- a plan by trains is one by places,
    pub plan_by_places : IsPlan s x → IsPlan (ordered_shape order s) y
    plan_by_places p =
        record {
          below = λ d h. rw (at_place d h) (p.below (order d) (order_below is d h));
          choices = λ d h. rw (at_place d h) (p.choices (order d) (order_below is d h));
          entries = λ k h. pair_same (s.entry_open k) k h ∙ p.entries k h;
        }

    -- and back
    pub plan_by_trains : IsPlan (ordered_shape order s) y → IsPlan s x
    plan_by_trains p =
        record {
          below = λ i h. rw (same i h) (subst (λ (j : ℕ). y (place_of order s i) < s.size j) (order_rank is i h) (p.below (place_of order s i) (rank_below is i h)));
          choices = λ i h. rw (same i h) (subst (λ (j : ℕ). s.choice_open j (y (place_of order s i)) ≡ true) (order_rank is i h) (p.choices (place_of order s i) (rank_below is i h)));
          entries = λ k h. sym (pair_same (s.entry_open k) k h) ∙ p.entries k h;
        }

  -- choices by trains, taken by places
  pub by_places : (x : ℕ → ℕ) (t : ℕ) → t < s.trains → x t ≡ x (order (place_of order s t))
  by_places x t h = ap x (sym (order_rank is t h))

  -- with nothing forbidden, nothing is
  pub ordered_open : Open s → Open (ordered_shape order s)
  ordered_open free =
      record {
        choices = λ d a h q. free.choices (order d) a (order_below is d h) q;
        entries = λ k a c h p q. by k a c h (turned order s k) (rw (earlier-size k h) at p) (rw (later-size k h) at q);
      }
    where
      by : (k a c : ℕ) → k < s.pairs → (t : Bool) → a < cond t (s.size (s.second k)) (s.size (s.first k)) → c < cond t (s.size (s.first k)) (s.size (s.second k))
          → cond t (s.entry_open k c a) (s.entry_open k a c) ≡ true
      by k a c h true p q = free.entries k c a h q p
      by k a c h false p q = free.entries k a c h p q
