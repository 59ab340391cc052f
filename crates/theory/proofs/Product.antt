-- Laws of products of numbers that follow each other.
use mathlib.Core.Path.{◌≡◌, refl, sym, ap, ap₂, ◌∙◌}
use Prim.Native.Nat.{ℕ, zero, suc, ◌+◌, ◌*◌, ◌<◌}
use native.Mathlib.Nat.{add-zero, one-mul, mul-one, mul_assoc}
use native.Mathlib.Numerals.{add-one}
use native.Mathlib.Omega.{arith}
use Rattle.theory.specs.Product.{product}

pub product_none : (f : ℕ → ℕ) (t : ℕ) → product f t 0 ≡ 1
unfolding product
product_none f t = refl

-- one number more at the front
pub product_more : (f : ℕ → ℕ) (t k : ℕ) → product f t (k + 1) ≡ f t * product f (t + 1) k
unfolding product
product_more f t k = rw (add-one k)

-- one number more at the end
pub product_last : (f : ℕ → ℕ) (t k : ℕ) → product f t (k + 1) ≡ product f t k * f (t + k)
product_last f t zero =
    product_more f t 0 ∙ ap (λ (v : ℕ). f t * v) (product_none f (t + 1)) ∙ mul-one (f t)
    ∙ sym (ap₂ ◌*◌ (product_none f t) (ap f (add-zero t)) ∙ one-mul (f t))
product_last f t (suc k) =
    product_more f t (suc k)
    ∙ ap (λ (v : ℕ). f t * v) (ap (product f (t + 1)) (sym (add-one k)) ∙ product_last f (t + 1) k ∙ ap (λ (j : ℕ). product f (t + 1) k * f j) (omega arith))
    ∙ sym (mul_assoc (f t) (product f (t + 1) k) (f (t + suc k)))
    ∙ ap (λ (v : ℕ). v * f (t + suc k)) (sym (product_more f t k) ∙ ap (product f t) (add-one k))

-- of numbers that agree
pub product_cong : (f g : ℕ → ℕ) (t k : ℕ) → ((i : ℕ) → i < t + k → f i ≡ g i) → product f t k ≡ product g t k
unfolding product
product_cong f g t zero e = refl
product_cong f g t (suc k) e = ap₂ ◌*◌ (e t (omega arith)) (product_cong f g (t + 1) k (λ i h. e i (omega arith)))
