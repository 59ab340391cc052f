-- A list of choices by places, by trains again.
use mathlib.Core.Path.{◌≡◌, refl, sym, ap, ◌∙◌}
use mathlib.Core.Bool.{cond}
use mathlib.Core.List.{List}
use Prim.Native.Nat.{ℕ, zero, suc, ◌<◌}
use lib.Dec.{ltb}
use lib.ListN.{length, replicate}
use borrow.Author.Tests.{lt-ltb}
use Rattle.theory.specs.Lists.{nth}
use Rattle.theory.specs.Order.{rank}
use Rattle.theory.proofs.Order.{rank_cong}
use Rattle.theory.proofs.Lists.{list_length, list_nth, list_is, list_cong}
use Rattle.orders.specs.Ordered.{place_in, by_train}

module _ (n : ℕ) (order : ℕ → ℕ) where
  pub by_train-length : (l : List ℕ) → length (by_train n order l) ≡ length l
  unfolding by_train
  by_train-length l = list_length _ (length l)

  -- the choice of a train
  pub by_train-nth : (l : List ℕ) (t : ℕ) → t < n → t < length l → nth (by_train n order l) t ≡ nth l (rank n order t)
  unfolding by_train
  by_train-nth l t h q = list_nth _ 0 (length l) t q ∙ rw (lt-ltb t n h)

  -- where every choice is 0, so it is by trains
  pub by_train-zeros : (k : ℕ) → by_train n order (replicate k 0) ≡ replicate k 0
  unfolding by_train
  by_train-zeros k = list_is _ _ (replicate k 0) refl (λ t h. zeros k (place_in n order t) ∙ sym (zeros k t))
    where
      zeros : (k t : ℕ) → nth (replicate k 0) t ≡ 0
      zeros zero t = refl
      zeros (suc k) zero = refl
      zeros (suc k) (suc t) = zeros k t

-- an order is what it is below n
pub by_train-cong : (n : ℕ) (f g : ℕ → ℕ) → ((d : ℕ) → d < n → f d ≡ g d) → (l : List ℕ) → by_train n f l ≡ by_train n g l
unfolding by_train
by_train-cong n f g e l = list_cong (length l) _ _ (λ t h. ap (λ (r : ℕ). nth l (cond (ltb t n) r t)) (rank_cong e t))
