-- Turns over a range of numbers: what a loop leaves, and the least of a range.
use Rattle.std.specs.Prelude.{ℕ, zero, suc, min}

-- turn 0, then turn 1, up to turn n - 1
unfoldable pub iter {ℓ} : {A : Type ℓ} → ℕ → (ℕ → A → A) → A → A
iter zero f a = a
iter (suc n) f a = f n (iter n f a)

-- turn n - 1, then turn n - 2, down to turn 0
unfoldable pub down {ℓ} : {A : Type ℓ} → ℕ → (ℕ → A → A) → A → A
down zero f a = a
down (suc n) f a = down n f (f n a)

-- the least of f 0 to f n
unfoldable pub least : ℕ → (ℕ → ℕ) → ℕ
least zero f = f 0
least (suc n) f = min (least n f) (f (suc n))
