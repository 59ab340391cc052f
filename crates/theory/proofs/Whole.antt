-- Laws of finite sums of whole numbers, and numbers that change by what cancels.
use mathlib.Core.Path.{◌≡◌, refl, sym, ap, ap₂, ◌∙◌}
use mathlib.Core.Logic.{⊎_elim, ◌≢◌}
use Prim.Native.Nat.{ℕ, zero, suc, ◌<◌}
use native.Mathlib.Omega.{arith}
use lib.IntN.{ℤ, pos, ◌+ℤ◌, +ℤ_assoc, +ℤ_comm, +ℤ_idr}
use Rattle.theory.specs.Sum.{sum}
use Rattle.theory.specs.Whole.{sumℤ}
use Rattle.theory.proofs.Range.{below_suc}

pub sumℤ_cong : (n : ℕ) (f g : ℕ → ℤ) → ((i : ℕ) → i < n → f i ≡ g i) → sumℤ n f ≡ sumℤ n g
unfolding sumℤ
sumℤ_cong zero f g h = refl
sumℤ_cong (suc n) f g h = ap₂ ◌+ℤ◌ (sumℤ_cong n f g (λ i l. h i (omega arith))) (h n (omega arith))

swap : (a b c : ℤ) → (a +ℤ b) +ℤ c ≡ (a +ℤ c) +ℤ b
swap a b c = +ℤ_assoc a b c ∙ ap (λ (z : ℤ). a +ℤ z) (+ℤ_comm b c) ∙ sym (+ℤ_assoc a c b)

-- one changed term
pub sumℤ-one : (n k : ℕ) (f g : ℕ → ℤ) (δ : ℤ) → k < n → ((i : ℕ) → i < n → i ≢ k → f i ≡ g i) → f k ≡ g k +ℤ δ → sumℤ n f ≡ sumℤ n g +ℤ δ
unfolding sumℤ
sumℤ-one zero k f g δ h e d = absurd (omega arith)
sumℤ-one (suc n) k f g δ h e d =
    ⊎_elim
    (λ (q : k ≡ n). ap₂ ◌+ℤ◌ (sumℤ_cong n f g (λ i l. e i (omega arith) (λ r. omega arith))) (rw q at d) ∙ sym (+ℤ_assoc (sumℤ n g) (g n) δ))
    (λ (q : k < n). ap₂ ◌+ℤ◌ (sumℤ-one n k f g δ q (λ i l. e i (omega arith)) d) (e n (omega arith) (λ r. omega arith)) ∙ swap (sumℤ n g) δ (g n))
    (below_suc k n h)

pub sumℤ_pos : (n : ℕ) (f : ℕ → ℤ) (g : ℕ → ℕ) → ((i : ℕ) → i < n → f i ≡ pos (g i)) → sumℤ n f ≡ pos (sum n g)
unfolding sumℤ sum
sumℤ_pos zero f g h = refl
sumℤ_pos (suc n) f g h = ap₂ ◌+ℤ◌ (sumℤ_pos n f g (λ i l. h i (omega arith))) (h n (omega arith))

-- a is p, changed by δ
pub record Changed (a p δ : ℤ) : Type 0 where
  pub by : a ≡ p +ℤ δ

pub unchanged : {a p : ℤ} → a ≡ p → Changed a p (pos 0)
unchanged {p = p} e = record { by = e ∙ sym (+ℤ_idr p) }

-- three parts whose changes cancel
pub parts_kept : {a b c p q r d e f : ℤ} → Changed a p d → Changed b q e → Changed c r f → (d +ℤ e) +ℤ f ≡ pos 0 → (a +ℤ b) +ℤ c ≡ (p +ℤ q) +ℤ r
parts_kept {p = p} {q} {r} {d} {e} {f} x y z w =
    rw (x.by, y.by, z.by)
    (ap (λ (t : ℤ). t +ℤ (r +ℤ f)) (pair p d q e) ∙ pair (p +ℤ q) (d +ℤ e) r f ∙ ap (λ (t : ℤ). ((p +ℤ q) +ℤ r) +ℤ t) w ∙ +ℤ_idr ((p +ℤ q) +ℤ r))
  where
    pair : (p d q e : ℤ) → (p +ℤ d) +ℤ (q +ℤ e) ≡ (p +ℤ q) +ℤ (d +ℤ e)
    pair p d q e = sym (+ℤ_assoc (p +ℤ d) q e) ∙ ap (λ (t : ℤ). t +ℤ e) (swap p d q) ∙ +ℤ_assoc (p +ℤ q) d e
