-- Laws of the number of tries: how it grows, place by place.
use mathlib.Core.Path.{◌≡◌, ap}
use Prim.Native.Nat.{ℕ, suc, ◌+◌, ◌*◌, ◌<◌, ◌≤◌}
use native.Mathlib.Nat.{mul-add, mul-one}
use native.Mathlib.Omega.{arith}
use Rattle.theory.specs.Sum.{sum}
use Rattle.theory.specs.Product.{product}
use Rattle.theory.specs.Tries.{tries_from, tries_of}
use Rattle.theory.proofs.Sum.{sum_none, sum_more, sum_head, sum-scale, sum_cong, sum_front}
use Rattle.theory.proofs.Product.{product_none, product_more, product_cong}

pub tries_none : (f : ℕ → ℕ) (t : ℕ) → tries_from f 0 t ≡ 0
unfolding tries_from
tries_none f t = sum_none (λ i. product f t (i + 1))

-- one place more at the front: its choices, each with the tries of the places after it
pub tries_more : (f : ℕ → ℕ) (left t : ℕ) → tries_from f (suc left) t ≡ f t * (1 + tries_from f left (t + 1))
unfolding tries_from
tries_more f left t =
    let rest : ℕ → ℕ = λ i. product f (t + 1) (i + 1) in
    omega (
      arith,
      sum_head left (λ i. product f t (i + 1)),
      product_more f t 0,
      ap (λ (v : ℕ). f t * v) (product_none f (t + 1)),
      sum_cong left (λ i. product f t (i + 1 + 1)) (λ i. f t * rest i) (λ i h. product_more f t (i + 1)),
      sum-scale left (f t) rest,
      mul-add (f t) 1 (sum left rest),
      mul-one (f t),
    )

-- one place more at the end
pub tries_next : (f : ℕ → ℕ) (n : ℕ) → tries_of (n + 1) f ≡ tries_of n f + product f 0 (n + 1)
unfolding tries_from
tries_next f n = sum_more n (λ i. product f 0 (i + 1))

-- more places, no fewer tries
pub tries_rise : (f : ℕ → ℕ) (m n : ℕ) → m ≤ n → tries_of m f ≤ tries_of n f
unfolding tries_from
tries_rise f m n h = sum_front m n (λ i. product f 0 (i + 1)) h

-- as many choices at each place, as many tries
pub tries_of_cong : (n : ℕ) (f g : ℕ → ℕ) → ((i : ℕ) → i < n → f i ≡ g i) → tries_of n f ≡ tries_of n g
unfolding tries_from
tries_of_cong n f g e = sum_cong n (λ i. product f 0 (i + 1)) (λ i. product g 0 (i + 1)) (λ i h. product_cong f g 0 (i + 1) (λ j l. e j (omega arith)))
