-- Finite sums of naturals: one theory that every crate cites. Their laws are in proofs/Sum.antt.
use Rattle.std.specs.Prelude.{cond, ℕ, zero, suc, ◌+◌, eqb}

-- f 0 + .. + f (n - 1)
unfoldable pub sum : ℕ → (ℕ → ℕ) → ℕ
sum zero f = 0
sum (suc n) f = sum n f + f n

-- x, with the value a at i
unfoldable pub update : (ℕ → ℕ) → ℕ → ℕ → ℕ → ℕ
update x i a j = cond (eqb j i) a (x j)
