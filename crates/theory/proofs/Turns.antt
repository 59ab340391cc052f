-- What turns over a range leave at a place of a list: what its own turn left there, where the others leave it; and the sum of what they add, where each adds something.
-- Of a turn only what it does to the list that it finds counts.
use mathlib.Core.Path.{◌≡◌, refl, sym, ap, ◌∙◌}
use mathlib.Core.List.{List}
use mathlib.Core.Logic.{⊎_elim}
use Prim.Native.Nat.{ℕ, zero, suc, ◌<◌}
use native.Mathlib.Omega.{arith}
use lib.IntN.{ℤ, pos, ◌+ℤ◌, +ℤ_assoc, +ℤ_idr}
use lib.ListN.{get_or}
use Rattle.theory.specs.Whole.{sumℤ}
use Rattle.theory.specs.Fold.{iter}
use Rattle.theory.proofs.Range.{below_suc}

-- the number at place p
abbrev at : List ℤ → ℕ → ℤ
at b p = get_or b p (pos 0)

module _ (F : ℕ → List ℤ → List ℤ) (b : List ℤ) where
  -- turn i leaves place p as it finds it
  abbrev pub Leaves : ℕ → ℕ → Type 0
  Leaves p i = at (F i (iter i F b)) p ≡ at (iter i F b) p

  pub fold_leaves : (n p : ℕ) → ((i : ℕ) → i < n → Leaves p i) → at (iter n F b) p ≡ at b p
  unfolding iter
  fold_leaves zero p l = refl
  fold_leaves (suc n) p l = l n (omega arith) ∙ fold_leaves n p (λ i h. l i (omega arith))

  -- the turns after turn j leave what it left
  pub fold_turn : (n j p : ℕ) → j < n → ((i : ℕ) → j < i → i < n → Leaves p i) → at (iter n F b) p ≡ at (F j (iter j F b)) p
  unfolding iter
  fold_turn zero j p h l = absurd (omega arith)
  fold_turn (suc n) j p h l =
      ⊎_elim (λ (e : j ≡ n). rw e) (λ (q : j < n). l n q (omega arith) ∙ fold_turn n j p q (λ i g r. l i g (omega arith))) (below_suc j n h)

  -- each turn adds its own number
  pub fold-sum : (n p : ℕ) (δ : ℕ → ℤ) → ((i : ℕ) → i < n → at (F i (iter i F b)) p ≡ at (iter i F b) p +ℤ δ i) → at (iter n F b) p ≡ at b p +ℤ sumℤ n δ
  unfolding iter sumℤ
  fold-sum zero p δ t = sym (+ℤ_idr (at b p))
  fold-sum (suc n) p δ t =
      t n (omega arith) ∙ ap (λ (z : ℤ). z +ℤ δ n) (fold-sum n p δ (λ i h. t i (omega arith))) ∙ +ℤ_assoc (at b p) (sumℤ n δ) (δ n)
