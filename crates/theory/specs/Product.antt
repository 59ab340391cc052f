-- Products of numbers that follow each other. Their laws are in proofs/Product.antt.
use Rattle.std.specs.Prelude.{ℕ, zero, suc, ◌+◌, ◌*◌}

-- the product of k numbers from number t on
unfoldable pub product : (ℕ → ℕ) → ℕ → ℕ → ℕ
product f t zero = 1
product f t (suc k) = f t * product f (t + 1) k
