-- One lift, one row or one column alone, as moves: what it gives, and to which choice.
use mathlib.Core.Path.{◌≡◌, refl, sym, ap, ◌∙◌}
use mathlib.Core.Bool.{Bool, true, false, cond}
use mathlib.Core.Logic.{◌⊎◌, inl, inr, ◌≢◌}
use Prim.Native.Nat.{ℕ, ◌<◌}
use native.Mathlib.Decide.{ℕ_discrete}
use native.Mathlib.Omega.{arith}
use lib.Dec.{eqb}
use borrow.Author.Tests.{eq-eqb, ne_eqb}
use Rattle.theory.proofs.Sum.{sum_cong, sum_pick, sum-zero}
use Rattle.tables.specs.Plans.{Shape}
use Rattle.weights.specs.Moves.{Moves, given_by, given}

-- n where i is j, else 0
abbrev pub only : ℕ → ℕ → ℕ → ℕ
only i j n = cond (eqb i j) n 0

pub only_here : (i j n : ℕ) → i ≡ j → only i j n ≡ n
only_here i j n e = rw (eq-eqb i j e)

pub only_away : (i j n : ℕ) → (i ≡ j → ⊥) → only i j n ≡ 0
only_away i j n e = rw (ne_eqb i j e)

pub only_none : (i j : ℕ) → only i j 0 ≡ 0
only_none i j = go (eqb i j)
  where
    go : (b : Bool) → ◌≡◌ {A = ℕ} (cond b 0 0) 0
    go true = refl
    go false = refl

-- under two tests
pub only_both : (t i x a n : ℕ) → t ≡ i → x ≡ a → only t i (only x a n) ≡ n
only_both t i x a n e f = only_here t i (only x a n) e ∙ only_here x a n f

pub only_not : (t i x a n : ℕ) → (t ≢ i) ⊎ (x ≢ a) → only t i (only x a n) ≡ 0
only_not t i x a n (inl d) = only_away t i (only x a n) d
only_not t i x a n (inr d) = ap (only t i) (only_away x a n d) ∙ only_none t i

-- n from train i, from row x of pair k, from column x of pair k
abbrev pub lift_move : ℕ → ℕ → Moves
lift_move i n = record { lift = λ j. only i j n; row = λ l a. 0; column = λ l c. 0 }

abbrev pub row_move : ℕ → ℕ → ℕ → Moves
row_move k x n = record { lift = λ j. 0; row = λ l a. only k l (only x a n); column = λ l c. 0 }

abbrev pub column_move : ℕ → ℕ → ℕ → Moves
column_move k x n = record { lift = λ j. 0; row = λ l a. 0; column = λ l c. only k l (only x c n) }

-- what stands under two tests, of which the second settles the first
only_turned : (f : ℕ → ℕ) (k l i v : ℕ) → only (f l) i (only k l v) ≡ only k l (only (f k) i v)
only_turned f k l i v = by (ℕ_discrete k l)
  where
    by : Dec (k ≡ l) → only (f l) i (only k l v) ≡ only k l (only (f k) i v)
    by (yes e) = rw (eq-eqb k l e) (ap (λ (m : ℕ). only (f m) i v) (sym e))
    by (no d) = rw (ne_eqb k l d) (only_none (f l) i)

module _ (s : Shape) where
  pub lift_given : (j n i a : ℕ) → given s (lift_move j n) i a ≡ 0
  unfolding given
  lift_given j n i a =
      sum_cong s.pairs (given_by s (lift_move j n) i a) (λ k. 0) (λ k h. omega (arith, only_none (s.first k) i, only_none (s.second k) i)) ∙ sum-zero s.pairs

  pub row-given : (k x n i a : ℕ) → k < s.pairs → given s (row_move k x n) i a ≡ only (s.first k) i (only x a n)
  unfolding given
  row-given k x n i a h =
      sum_cong s.pairs (given_by s (row_move k x n) i a) (λ l. only k l (only (s.first k) i (only x a n))) (λ l q.
      omega (arith, only_turned s.first k l i (only x a n), only_none (s.second l) i))
      ∙ sum_pick s.pairs k (only (s.first k) i (only x a n)) h

  pub column_given : (k x n i a : ℕ) → k < s.pairs → given s (column_move k x n) i a ≡ only (s.second k) i (only x a n)
  unfolding given
  column_given k x n i a h =
      sum_cong s.pairs (given_by s (column_move k x n) i a) (λ l. only k l (only (s.second k) i (only x a n))) (λ l q.
      omega (arith, only_turned s.second k l i (only x a n), only_none (s.first l) i))
      ∙ sum_pick s.pairs k (only (s.second k) i (only x a n)) h
