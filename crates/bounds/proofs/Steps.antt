-- The step divides every used entry of H, and every number that divides them all divides it: it is their greatest common divisor, whatever Euclid does.
use mathlib.Core.Path.{◌≡◌, refl}
use mathlib.Core.List.{List}
use mathlib.Core.Logic.{⊎_elim, dite}
use Prim.Native.Nat.{ℕ, ◌+◌, ◌<◌, ◌≤◌, ◌∣◌}
use native.Mathlib.Decide.{ℕ_discrete}
use native.Mathlib.Nat.{dvd_refl, dvd-zero, dvd_trans, one-dvd, pos_of_dvd_of_pos, eq-zero_of_zero-dvd}
use native.Mathlib.Omega.{arith}
use borrow.Author.Tests.{eq-eqb, ne_eqb}
use lib.IntN.{ℤ}
use Rattle.theory.specs.Fold.{iter}
use Rattle.theory.proofs.Range.{below_suc}
use Rattle.theory.proofs.Fold.{iter-ind}
use Rattle.tables.specs.Block.{trains, pairs, size, first, second, loaded_choice, loaded_entry}
use Rattle.bounds.specs.Steps.{gcd, train_step, choices_step, row_step, pair_step, entries_step, costs_step, step_of, Used, choice, entry}
use Rattle.bounds.proofs.Euclid.{gcd_divides, gcd_greatest, gcd_one, gcd_most}

-- ---- turns

-- a turn that goes down from any number to a divisor of it that divides each number of V too
abbrev Divides : (ℕ → Type 0) → (ℕ → ℕ) → Type 0
Divides V f = (g : ℕ) → (f g ∣ g) × ((v : ℕ) → V v → f g ∣ v)

-- a number of V i, for some i below n
abbrev Among : ℕ → (ℕ → ℕ → Type 0) → ℕ → Type 0
Among n V v = (i : ℕ) × (i < n) × V i v

-- such turns, one after the other, divide the numbers of all of them
turns_divide : (n : ℕ) (f : ℕ → ℕ → ℕ) (V : ℕ → ℕ → Type 0) → ((i : ℕ) → i < n → Divides (V i) (f i)) → Divides (Among n V) (iter n f)
turns_divide n f V d g =
    let r = iter-ind So n f g (dvd_refl g, λ j v l w. absurd (omega arith)) next in
    (r.0, λ v w. r.1 w.0 v w.1 w.2)
  where
    So : ℕ → ℕ → Type 0
    So i x = (x ∣ g) × ((j v : ℕ) → j < i → V j v → x ∣ v)

    next : (i x : ℕ) → i < n → So i x → So (i + 1) (f i x)
    next i x h s =
        let down = (d i h x).0 in (
          dvd_trans _ down s.0,
          λ j v l w. ⊎_elim (λ (e : j ≡ i). (d i h x).1 v (rw e at w)) (λ (k : j < i). dvd_trans _ down (s.1 j v k w)) (below_suc j i (omega arith)),
        )

-- what each turn keeps, all of them keep
turns_keep : (P : ℕ → Type 0) (n : ℕ) (f : ℕ → ℕ → ℕ) → ((i : ℕ) → i < n → (g : ℕ) → P g → P (f i g)) → (g : ℕ) → P g → P (iter n f g)
turns_keep P n f keeps g p = iter-ind (λ _ x. P x) n f g p (λ i x h q. keeps i h x q)

one_divides : (w : ℕ) → Divides (λ v. v ≡ w) (gcd w)
one_divides w g = ((gcd_divides w g).1, λ v e. rw e (gcd_divides w g).0)

module _ (b : List ℤ) where
  -- ---- the costs

  choices_divide : Divides (Among (trains b) (λ i. Among (size b i) (λ a v. v ≡ loaded_choice b i a))) (iter (trains b) (train_step b))
  choices_divide = turns_divide _ _ _ (λ i h. turns_divide _ _ _ (λ a q. one_divides (loaded_choice b i a)))

  entries_divide : Divides (Among (pairs b) (λ k. Among (size b (first b k)) (λ a. Among (size b (second b k)) (λ c v. v ≡ loaded_entry b k a c)))) (entries_step b)
  entries_divide = turns_divide _ _ _ (λ k h. turns_divide _ _ _ (λ a p. turns_divide _ _ _ (λ c q. one_divides (loaded_entry b k a c))))

  costs_divide : {v : ℕ} → Used b v → costs_step b ∣ v
  costs_divide (choice i a h q) = dvd_trans _ (entries_divide (choices_step b)).0 ((choices_divide 0).1 _ (i, h, (a, q, refl)))
  costs_divide (entry k a c h p q) = (entries_divide (choices_step b)).1 _ (k, h, (a, p, (c, q, refl)))

  -- what each used entry keeps
  costs_keep : (P : ℕ → Type 0) → P 0 → ((v : ℕ) → Used b v → (g : ℕ) → P g → P (gcd v g)) → P (costs_step b)
  costs_keep P z keeps =
      turns_keep P (pairs b) (pair_step b)
      (λ k h. turns_keep P (size b (first b k)) (row_step b k)
      (λ a p. turns_keep P (size b (second b k)) (λ c. gcd (loaded_entry b k a c)) (λ c q. keeps (loaded_entry b k a c) (entry k a c h p q))))
      (choices_step b)
      (turns_keep P (trains b) (train_step b) (λ i h. turns_keep P (size b i) (λ a. gcd (loaded_choice b i a)) (λ a q. keeps (loaded_choice b i a) (choice i a h q))) 0 z)

  costs_greatest : (c : ℕ) → ((v : ℕ) → Used b v → c ∣ v) → c ∣ costs_step b
  costs_greatest c d = costs_keep (λ g. c ∣ g) (dvd-zero c) (λ v u g e. gcd_greatest v g c (d v u) e)

  -- once it is 1 it stays 1
  pub train_one : (i g : ℕ) → g ≡ 1 → train_step b i g ≡ 1
  train_one i g e = turns_keep (λ x. x ≡ 1) (size b i) (λ a. gcd (loaded_choice b i a)) (λ a h x q. rw q (gcd_one (loaded_choice b i a))) g e

  pub pair_one : (k g : ℕ) → g ≡ 1 → pair_step b k g ≡ 1
  pair_one k g e =
      turns_keep (λ x. x ≡ 1) (size b (first b k)) (row_step b k)
      (λ a p. turns_keep (λ x. x ≡ 1) (size b (second b k)) (λ c. gcd (loaded_entry b k a c)) (λ c h x q. rw q (gcd_one (loaded_entry b k a c)))) g e

  -- ---- the step

  step_is_one : costs_step b ≡ 0 → step_of b ≡ 1
  unfolding step_of
  step_is_one e = rw (eq-eqb (costs_step b) 0 e)

  step_is_costs : (costs_step b ≡ 0 → ⊥) → step_of b ≡ costs_step b
  unfolding step_of
  step_is_costs n = rw (ne_eqb (costs_step b) 0 n)

  -- it divides every used entry of H
  pub step_divides : {v : ℕ} → Used b v → step_of b ∣ v
  step_divides {v} u =
      dite (ℕ_discrete (costs_step b) 0) (λ (e : costs_step b ≡ 0). rw (step_is_one e) (one-dvd v)) (λ n. rw (step_is_costs n) (costs_divide u))

  -- and where one of them is above 0, every number that divides them all divides it
  pub step_greatest : (c : ℕ) → ((v : ℕ) → Used b v → c ∣ v) → {v : ℕ} → Used b v → 0 < v → c ∣ step_of b
  step_greatest c d {v} u h =
      let p : 0 < costs_step b = pos_of_dvd_of_pos (costs_divide u) h in
      rw (step_is_costs (λ e. omega arith)) (costs_greatest c d)

  -- 'if all are 0 it is 1'
  pub step_none : ((v : ℕ) → Used b v → v ≡ 0) → step_of b ≡ 1
  step_none z = step_is_one (eq-zero_of_zero-dvd (costs_greatest 0 (λ v u. rw (z v u) (dvd_refl 0))))

  -- it is from 1 to the greatest of them
  pub step_above : 0 < step_of b
  step_above = dite (ℕ_discrete (costs_step b) 0) (λ (e : costs_step b ≡ 0). omega (arith, step_is_one e)) (λ n. omega (arith, step_is_costs n))

  pub step_most : (h : ℕ) → 1 ≤ h → ((v : ℕ) → Used b v → v ≤ h) → step_of b ≤ h
  step_most h l d =
      let m = costs_keep (λ g. g ≤ h) (omega arith) (λ v u g e. gcd_most v g h (d v u) e) in
      dite (ℕ_discrete (costs_step b) 0) (λ (e : costs_step b ≡ 0). omega (arith, step_is_one e)) (λ n. omega (arith, step_is_costs n))
