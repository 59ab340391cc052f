-- What follows from each part of the statement on bounds in steps (specs/Steps.antt), which is the premise of each law here: the bound is a multiple of every number that divides all costs; where choices
-- cost 6 and the entries of a pair 4, a constant of 3 is published as 4; where all costs are 0, a constant is published as it is.
use mathlib.Core.Path.{◌≡◌, refl}
use mathlib.Core.Bool.{true}
use mathlib.Core.List.{List}
use Prim.Native.Nat.{ℕ, ◌%◌, ◌<◌, ◌≤◌, ◌∣◌}
use Prim.Native.String.{String}
use native.Mathlib.Nat.{dvd_trans, dvd_antisymm, dvd-sub, dvd_of_mod-eq-zero, mod-eq-zero_of_dvd, eq-zero_of_zero-dvd}
use native.Mathlib.Omega.{arith}
use lib.Dec.{eqb}
use lib.IntN.{ℤ}
use borrow.Author.Tests.{eqb-true}
use Rattle.tables.specs.Block.{constant}
use Rattle.bounds.specs.Bounds.{bound_of}
use Rattle.frames.specs.Text.{codes}
use Rattle.decoding.specs.Numbers.{numbers_of}
use Rattle.claims.specs.Ledger.{Ledger, numbers_ledger}
use Rattle.claims.specs.Steps.{LoadedCost, choice, entry, InSteps}
use Rattle.claims.proofs.ByComputing.{each_choice, each_entry, each_choice_true, each_entry_true}
use Rattle.claims.proofs.Uses.{told}

-- d divides all costs of a ledger, by computing
divides_each : (g : Ledger) (d : ℕ) → each_choice g.shape (λ i a. eqb (g.costs.choice i a % d) 0) ≡ true → each_entry g.shape (λ k a c. eqb (g.costs.pair k a c % d) 0) ≡ true
    → (v : ℕ) → LoadedCost g v → d ∣ v
divides_each g d e f v (choice i a h q o) = dvd_of_mod-eq-zero d (eqb-true _ _ (each_choice_true g.shape (λ i a. eqb (g.costs.choice i a % d) 0) e i a h q))
divides_each g d e f v (entry k a c h p q o) = dvd_of_mod-eq-zero d (eqb-true _ _ (each_entry_true g.shape (λ k a c. eqb (g.costs.pair k a c % d) 0) f k a c h p q))

-- every number that divides all costs divides the bound, where one of them is above 0
common_multiple : {g : Ledger} {b : List ℤ} → InSteps g b → (c v : ℕ) → ((w : ℕ) → LoadedCost g w → c ∣ w) → LoadedCost g v → 0 < v → c ∣ bound_of b
common_multiple s c v d p h = dvd_trans c (s.is_step.greatest c v d p h) s.multiple

-- ---- two trains with two choices, 6 points each, and a pair whose entries are 4 points each

unfoldable even_load : String
even_load = "010200010202000006000006000006000006010001000004000004000004000004"

unfoldable even : Ledger
unfolding even_load codes
even = numbers_ledger (numbers_of (codes even_load))

module _ {b : List ℤ} (s : InSteps even b) where
  -- the step divides 6 and 4, and 2 divides it
  even_step : s.step ≡ 2
  unfolding told even_load even each_choice each_entry
  even_step =
      let t = s.is_step in
      let six = t.divides 6 (choice 0 0 (omega arith) (omega arith) refl) in
      let four = t.divides 4 (entry 0 0 0 (omega arith) (omega arith) (omega arith) refl) in
      dvd_antisymm (dvd-sub s.step six four) (t.greatest 2 6 (divides_each even 2 refl refl) (choice 0 0 (omega arith) (omega arith) refl) (omega arith))

  -- a constant of 3 is published as 4
  even_bound : constant b ≡ 3 → bound_of b ≡ 4
  unfolding told even_load even
  even_bound e =
      let m = mod-eq-zero_of_dvd s.step s.multiple in
      let n : bound_of b % 2 ≡ 0 = rw even_step at m in
      let high : bound_of b ≤ 4 = rw even_step at (s.least 2) (rw e (omega arith)) in
      omega (arith, s.covers, e)

-- ---- a train with two choices that cost nothing

unfoldable free_load : String
free_load = "010100010200000000000000"

unfoldable free : Ledger
unfolding free_load codes
free = numbers_ledger (numbers_of (codes free_load))

module _ {b : List ℤ} (s : InSteps free b) where
  -- a constant of 7 is published as 7
  free_bound : constant b ≡ 7 → bound_of b ≡ 7
  unfolding told free_load free each_choice each_entry
  free_bound e =
      let o : s.step ≡ 1 = s.is_step.one (λ v p. eq-zero_of_zero-dvd (divides_each free 0 refl refl v p)) in
      let high : bound_of b ≤ 7 = rw o at (s.least 7) (rw e (omega arith)) in
      omega (arith, s.covers, e)
