-- What a cost is worth: that of a forbidden entry is −1 in both tables and 0 in every sum; any other stands as it is.
use mathlib.Core.Path.{◌≡◌, refl}
use mathlib.Core.Bool.{Bool, true, false, cond, not, ◌||◌}
use Prim.Native.Nat.{ℕ, ◌*◌, ◌≤◌}
use native.Mathlib.Nat.{mul-zero}
use native.Mathlib.Omega.{arith}
use borrow.Author.Tests.{leb-true, eqb-true, eq-eqb, ne_eqb}
use lib.Dec.{leb, eqb}
use lib.IntN.{pos, negsuc}
use Rattle.tables.specs.Block.{max_cost, nat}
use Rattle.tables.specs.WellFormed.{cost_to, within, is_open, mate}
use Rattle.tables.specs.Numbers.{forbidden_cost, is_cost, permits, priced, paid}
use Rattle.tables.proofs.Limits.{within_pos}

-- by whether the cost permits
by_permits : (P : Bool → Type 0) (c : ℕ) → (permits c ≡ true → P true) → (permits c ≡ false → P false) → P (permits c)
by_permits P c x y = go (permits c) refl
  where
    go : (t : Bool) → permits c ≡ t → P t
    go true e = x e
    go false e = y e

pub priced_open : (c v : ℕ) → is_open (priced c v) ≡ permits c
unfolding priced is_open
priced_open c v = by_permits (λ t. is_open (cond t (pos v) (negsuc 0)) ≡ t) c (λ e. refl) (λ e. refl)

-- in H, and in T
pub priced-nat : (c : ℕ) → nat (priced c c) ≡ paid c
unfolding priced paid
priced-nat c = by_permits (λ t. nat (cond t (pos c) (negsuc 0)) ≡ cond t c 0) c (λ e. refl) (λ e. refl)

pub priced_parts : (s c : ℕ) → nat (priced c (s * c)) ≡ s * paid c
unfolding priced paid
priced_parts s c = by_permits (λ t. nat (cond t (pos (s * c)) (negsuc 0)) ≡ s * cond t c 0) c (λ e. refl) (λ e. rw mul-zero)

pub priced-mates : (c v w : ℕ) → mate (priced c v) (priced c w) ≡ true
unfolding priced is_open mate
priced-mates c v w = by_permits (λ t. mate (cond t (pos v) (negsuc 0)) (cond t (pos w) (negsuc 0)) ≡ true) c (λ e. refl) (λ e. refl)

pub priced-within : (c v high : ℕ) → (permits c ≡ true → v ≤ high) → within (cost_to high) (priced c v) ≡ true
unfolding priced within
priced-within c v high h =
    by_permits (λ t. within (cost_to high) (cond t (pos v) (negsuc 0)) ≡ true) c (λ e. within_pos (cost_to high) v (omega arith) (h e)) (λ e. refl)

-- ---- costs of a load

or_right : (x y : Bool) → (x || y) ≡ true → not y ≡ true → x ≡ true
or_right true y e f = refl
or_right false true e f = let z : ◌≡◌ {A = ℕ} 0 1 = cc in absurd (omega arith)
or_right false false e f = e

-- that of a permitted entry is within its limit
pub cost_most : (c : ℕ) → is_cost c ≡ true → permits c ≡ true → c ≤ max_cost
unfolding is_cost permits
cost_most c e f = leb-true c max_cost (or_right (leb c max_cost) (eqb c forbidden_cost) e f)

-- no cost is above that of a forbidden entry
pub cost_high : (c : ℕ) → is_cost c ≡ true → c ≤ forbidden_cost
unfolding is_cost
cost_high c e = go (leb c max_cost) refl
  where
    go : (t : Bool) → leb c max_cost ≡ t → c ≤ forbidden_cost
    go true f = omega (arith, leb-true c max_cost f)
    go false f = let g : eqb c forbidden_cost ≡ true = rw f at e in omega (arith, eqb-true c forbidden_cost g)

-- as a test that the code makes
pub forbids : (c v : ℕ) → c ≡ forbidden_cost → priced c v ≡ negsuc 0
unfolding priced permits
forbids c v e = rw (eq-eqb c forbidden_cost e)

pub permitted : (c : ℕ) → (c ≡ forbidden_cost → ⊥) → permits c ≡ true
unfolding permits
permitted c n = rw (ne_eqb c forbidden_cost n)

pub priced_is : (c v : ℕ) → permits c ≡ true → priced c v ≡ pos v
unfolding priced
priced_is c v e = rw e
