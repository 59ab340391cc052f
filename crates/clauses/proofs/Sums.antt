-- More laws of sums: by rows, and where few terms count. Each is one induction, or `sum_one` against the sum of zeros.
use mathlib.Core.Path.{◌≡◌, ap}
use Prim.Native.Nat.{ℕ, zero, suc, ◌+◌, ◌*◌, ◌-◌, ◌<◌, ◌≤◌}
use native.Mathlib.Nat.{mul-zero, mul-suc}
use native.Mathlib.Omega.{arith}
use Rattle.theory.specs.Sum.{sum}
use Rattle.theory.proofs.Sum.{sum_cong, sum_split, sum-zero, sum_one}

-- n rows of w terms each
pub sum_rows : (w n : ℕ) (f : ℕ → ℕ) → sum (w * n) f ≡ sum n (λ i. sum w (λ a. f (w * i + a)))
unfolding sum
sum_rows w zero f = rw mul-zero
sum_rows w (suc n) f = rw mul-suc (omega (arith, sum_split (w * n) w f, sum_rows w n f))

-- the terms past m are 0
pub sum_rest : (m n : ℕ) (f : ℕ → ℕ) → m ≤ n → ((i : ℕ) → m ≤ i → i < n → f i ≡ 0) → sum n f ≡ sum m f
sum_rest m n f h z =
    let e : m + (n - m) ≡ n = omega arith in
    omega (
      arith,
      ap (λ (k : ℕ). sum k f) e,
      sum_split m (n - m) f,
      sum_cong (n - m) (λ k. f (m + k)) (λ k. 0) (λ i l. z (m + i) (omega arith) (omega arith)),
      sum-zero (n - m),
    )

-- the terms other than j are 0
pub sum_only : (n j : ℕ) (f : ℕ → ℕ) → j < n → ((i : ℕ) → i < n → (i ≡ j → ⊥) → f i ≡ 0) → sum n f ≡ f j
sum_only n j f h z = omega (arith, sum_one n j f (λ i. 0) h z, sum-zero n)
