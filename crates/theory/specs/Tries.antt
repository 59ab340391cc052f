-- How many tries it takes to choose at one place after the other, with f i choices at place i: each is tried once for each way of choosing at the places before. The laws are in proofs/Tries.antt.
use Rattle.std.specs.Prelude.{ℕ, ◌+◌}
use Rattle.theory.specs.Sum.{sum}
use Rattle.theory.specs.Product.{product}

-- at `left` places from place t on
unfoldable pub tries_from : (ℕ → ℕ) → ℕ → ℕ → ℕ
tries_from f left t = sum left (λ i. product f t (i + 1))

-- at n places: 'the sum of the products of the first 1, 2, up to n sizes'
abbrev pub tries_of : ℕ → (ℕ → ℕ) → ℕ
tries_of n f = tries_from f n 0
