-- Where the trains of an ordered study are tried, as its arrays say.
use mathlib.Core.Path.{◌≡◌, refl, sym, ap, ◌∙◌}
use mathlib.Core.Bool.{Bool, true, false, cond}
use mathlib.Core.List.{List}
use mathlib.Core.Logic.{⊎_elim}
use Prim.Native.Nat.{ℕ, ◌+◌, ◌<◌, ◌≤◌}
use native.Mathlib.Nat.{eq-or-lt_of_le}
use native.Mathlib.Omega.{arith}
use lib.Dec.{ltb}
use lib.ListN.{length, set}
use lib.Seq.{get_or-set_same, get_or-set_other}
use borrow.Author.Tests.{ltb-true, ltb-false}
use Rattle.theory.specs.Lists.{nth}
use Rattle.theory.specs.Order.{IsOrder, rank}
use Rattle.theory.proofs.Lists.{list_is}
use Rattle.theory.proofs.Order.{order_below, order_apart, rank_below, order_rank}
use Rattle.tables.specs.Block.{trains, pairs}
use Rattle.orders.specs.Ordered.{by_train}
use Rattle.rows.specs.declared.listing.Listing.{Listing}
use Rattle.rows.specs.declared.ordered_study.OrderedStudy.{OrderedStudy}
use Rattle.rows.specs.Listing.{numbers_of}

-- ---- what stands by places, written by the trains at them: g of each place

module _ {n : ℕ} {order : ℕ → ℕ} (is : IsOrder n order) (g : ℕ → ℕ) where
  -- one place more
  pub placed_more : (l : List ℕ) (d v : ℕ) → d < n → order d < length l → v ≡ g d → ((e : ℕ) → e < d → nth l (order e) ≡ g e) → (e : ℕ) → e < d + 1 → nth (set l (order d) v) (order e) ≡ g e
  placed_more l d v h q z before e r =
      ⊎_elim
      (λ (y : e ≡ d). rw y (get_or-set_same l (order d) v 0 q ∙ z))
      (λ (y : e < d). get_or-set_other l (order d) (order e) v 0 (λ w. let x : e ≡ d = order_apart is e d (omega arith) h w in absurd (omega arith)) ∙ before e y)
      (eq-or-lt_of_le (omega arith))

  -- what stands past the n places stays
  pub placed_past : (l : List ℕ) (d v t : ℕ) → d < n → n ≤ t → nth (set l (order d) v) t ≡ nth l t
  placed_past l d v t h q = get_or-set_other l (order d) t v 0 (λ w. let x = order_below is d h in absurd (omega arith))

  -- all n places
  pub placed_all : (l : List ℕ) → ((e : ℕ) → e < n → nth l (order e) ≡ g e) → (t : ℕ) → t < n → nth l t ≡ g (rank n order t)
  placed_all l at t h = ap (nth l) (sym (order_rank is t h)) ∙ at (rank n order t) (rank_below is t h)

-- choices so
pub placed_choices : {n : ℕ} {order : ℕ → ℕ} (is : IsOrder n order) (choices l : List ℕ) → length l ≡ length choices → ((e : ℕ) → e < n → nth l (order e) ≡ nth choices e)
    → ((t : ℕ) → n ≤ t → nth l t ≡ nth choices t) → l ≡ by_train n order choices
unfolding by_train
placed_choices {n} {order} is choices l w at past = sym (list_is (length choices) _ l w (λ t h. by t (ltb t n) refl))
  where
    by : (t : ℕ) (z : Bool) → ltb t n ≡ z → nth choices (cond z (rank n order t) t) ≡ nth l t
    by t true e = sym (placed_all is (nth choices) l at t (ltb-true t n e))
    by t false e = sym (past t (ltb-false t n e))

-- ---- an ordered study

module _ (o : OrderedStudy) (t : ℕ) (h : t < trains o.study.numbers.now) where
  -- the train at a place
  pub train_below : nth o.order t < trains o.study.numbers.now
  train_below = order_below o.once t h

  -- the place of a train
  pub place_below : nth o.places t < trains o.study.numbers.now
  place_below = rw (o.placed t h) (rank_below o.once t h)

-- the pair at a place of the list
pub list_below : (l : Listing) (k : ℕ) → k < pairs (numbers_of l) → nth l.list k < pairs (numbers_of l)
list_below l = order_below l.sorted.once
