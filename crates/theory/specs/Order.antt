-- Orders of the numbers below n: an order gives to each of n places the number that stands there.
use Rattle.std.specs.Prelude.{◌≡◌, Bool, true, cond, ◌&&◌, ℕ, ltb, eqb}
use Rattle.theory.specs.Sum.{sum}
use Rattle.theory.specs.Range.{all}

-- at how many of n places number i stands
abbrev pub times : ℕ → (ℕ → ℕ) → ℕ → ℕ
times n order i = sum n (λ d. cond (eqb (order d) i) 1 0)

-- each number below n exactly once, and no other
unfoldable pub each_once : ℕ → (ℕ → ℕ) → Bool
each_once n order = all n (λ d. ltb (order d) n) && all n (λ i. eqb (times n order i) 1)

pub record IsOrder (n : ℕ) (order : ℕ → ℕ) : Type 0 where
  pub once : each_once n order ≡ true

-- the place of number i
unfoldable pub rank : ℕ → (ℕ → ℕ) → ℕ → ℕ
rank n order i = sum n (λ d. cond (eqb (order d) i) d 0)

-- the ascending order: each number at its own place
abbrev pub ascending : ℕ → ℕ
ascending d = d
