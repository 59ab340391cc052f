-- Laws of turns over a range.
use mathlib.Core.Path.{◌≡◌, refl, sym, ap, ◌∙◌}
use mathlib.Core.Logic.{⊎_elim, dite}
use Prim.Native.Nat.{ℕ, zero, suc, ◌+◌, ◌<◌, ◌≤◌, min}
use native.Mathlib.Decide.{dec_lt}
use native.Mathlib.Nat.{eq-or-lt_of_le}
use native.Mathlib.Numerals.{add-one}
use native.Mathlib.Omega.{arith}
use Rattle.theory.specs.Fold.{iter, down, least}

-- a loop's first and next turn
pub iter-zero {ℓ} : {A : Type ℓ} (f : ℕ → A → A) (a : A) → iter 0 f a ≡ a
unfolding iter
iter-zero f a = refl

pub iter-more {ℓ} : {A : Type ℓ} (n : ℕ) (f : ℕ → A → A) (a : A) → iter (n + 1) f a ≡ f n (iter n f a)
unfolding iter
iter-more n f a = rw add-one

-- one more turn of a loop
pub iter_turn {ℓ} : {A : Type ℓ} {n : ℕ} (f : ℕ → A → A) (a : A) {x y : A} → x ≡ iter n f a → y ≡ f n x → y ≡ iter (n + 1) f a
iter_turn {n = n} f a p q = q ∙ ap (f n) p ∙ sym (iter-more n f a)

-- what holds at the start and is kept by each turn holds at the end
pub iter-ind {ℓ ℓ'} : {A : Type ℓ} (P : ℕ → A → Type ℓ') (n : ℕ) (f : ℕ → A → A) (a : A)
    → P 0 a → ((i : ℕ) (x : A) → i < n → P i x → P (i + 1) (f i x)) → P n (iter n f a)
unfolding iter
iter-ind P zero f a z s = z
iter-ind P (suc n) f a z s = rw add-one at (s n (iter n f a) (omega arith) (iter-ind P n f a z (λ i x h. s i x (omega arith))))

-- a loop that counts down: its end, and its next turn
pub down-zero {ℓ} : {A : Type ℓ} (f : ℕ → A → A) (a : A) → down 0 f a ≡ a
unfolding down
down-zero f a = refl

pub down-more {ℓ} : {A : Type ℓ} (n : ℕ) (f : ℕ → A → A) (a : A) → down (n + 1) f a ≡ down n f (f n a)
unfolding down
down-more n f a = rw add-one

-- what holds at the start, where n turns are to come, and is kept by each turn holds at the end
pub down-ind {ℓ ℓ'} : {A : Type ℓ} (P : ℕ → A → Type ℓ') (n : ℕ) (f : ℕ → A → A) (a : A)
    → P n a → ((i : ℕ) (x : A) → i < n → P (i + 1) x → P i (f i x)) → P 0 (down n f a)
unfolding down
down-ind P zero f a z s = z
down-ind P (suc n) f a z s = down-ind P n f (f n a) (s n a (omega arith) (rw add-one z)) (λ i x h. s i x (omega arith))

pub least_zero : (f : ℕ → ℕ) → least 0 f ≡ f 0
unfolding least
least_zero f = refl

pub least_more : (n : ℕ) (f : ℕ → ℕ) → least (n + 1) f ≡ min (least n f) (f (n + 1))
unfolding least
least_more n f = rw add-one

-- the least is at most each, and one of them
pub least-le : (n k : ℕ) (f : ℕ → ℕ) → k ≤ n → least n f ≤ f k
unfolding least
least-le zero k f h = let e : k ≡ 0 = omega arith in rw e (omega arith)
least-le (suc n) k f h =
    ⊎_elim (λ (e : k ≡ suc n). rw e (omega arith)) (λ (l : k < suc n). omega (arith, least-le n k f (omega arith))) (eq-or-lt_of_le h)

pub record Least (n : ℕ) (f : ℕ → ℕ) : Type 0 where
  pub which : ℕ
  pub below : which ≤ n
  pub is : least n f ≡ f which

pub least_is : (n : ℕ) (f : ℕ → ℕ) → Least n f
unfolding least
least_is zero f = record { which = 0; below = omega arith; is = refl }
least_is (suc n) f =
    let m = least_is n f in
    dite (dec_lt (f (suc n)) (least n f))
    (λ (l : f (suc n) < least n f). record { which = suc n; below = omega arith; is = omega arith })
    (λ o. record { which = m.which; below = omega (arith, m.below); is = omega (arith, m.is) })
