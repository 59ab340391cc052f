-- Euclid: a and b have the common divisors that b and the remainder of a have. By induction on the calls that are left, of which b are enough, since the remainder falls below b.
use mathlib.Core.Path.{◌≡◌, refl}
use Prim.Native.Nat.{ℕ, zero, suc, ◌%◌, ◌<◌, ◌≤◌, ◌∣◌}
use native.Mathlib.Nat.{mod-lt, le_of_dvd, eq-one_of_dvd-one}
use native.Mathlib.Omega.{arith}
use Rattle.std.specs.Int.{IsGcd}
use Rattle.std.proofs.lemmas.Nat.Gcd.{IsGcd-from_zero, IsGcd-from_mod}
use Rattle.bounds.specs.Steps.{euclid, gcd}

remainder_falls : (a b : ℕ) → a % suc b < suc b
remainder_falls a b = mod-lt a (omega arith)

-- any number of calls of at least b gives the same
euclid_depth : (d e a b : ℕ) → b ≤ d → b ≤ e → euclid d a b ≡ euclid e a b
unfolding euclid
euclid_depth zero zero a b h q = refl
euclid_depth zero (suc e) a zero h q = refl
euclid_depth zero (suc e) a (suc b) h q = absurd (omega arith)
euclid_depth (suc d) zero a zero h q = refl
euclid_depth (suc d) zero a (suc b) h q = absurd (omega arith)
euclid_depth (suc d) (suc e) a zero h q = refl
euclid_depth (suc d) (suc e) a (suc b) h q =
    euclid_depth d e (suc b) (a % suc b) (omega (arith, remainder_falls a b)) (omega (arith, remainder_falls a b))

euclid_is : (d a b : ℕ) → b ≤ d → IsGcd a b (euclid d a b)
unfolding euclid
euclid_is zero a b h = IsGcd-from_zero a b (omega arith)
euclid_is (suc d) a zero h = IsGcd-from_zero a 0 refl
euclid_is (suc d) a (suc b) h =
    IsGcd-from_mod a (suc b) _ (euclid_is d (suc b) (a % suc b) (omega (arith, remainder_falls a b)))

-- it divides both
pub gcd_divides : (a b : ℕ) → (gcd a b ∣ a) × (gcd a b ∣ b)
unfolding gcd
gcd_divides a b = let g = euclid_is b a b (omega arith) in (g.0, g.1)

-- and every number that divides both divides it
pub gcd_greatest : (a b c : ℕ) → c ∣ a → c ∣ b → c ∣ gcd a b
unfolding gcd
gcd_greatest a b = (euclid_is b a b (omega arith)).2

-- the two ways of the code: 'recursion with falling remainder'
pub gcd_zero : (a b : ℕ) → b ≡ 0 → gcd a b ≡ a
unfolding gcd euclid
gcd_zero a b e = rw e

pub gcd_next : (a b : ℕ) → 0 < b → gcd a b ≡ gcd b (a % b)
unfolding gcd euclid
gcd_next a zero h = absurd (omega arith)
gcd_next a (suc b) h = euclid_depth b (a % suc b) (suc b) (a % suc b) (omega (arith, remainder_falls a b)) (omega arith)

-- 1 divides everything, so that once it is 1 it stays 1
pub gcd_one : (a : ℕ) → gcd a 1 ≡ 1
gcd_one a = eq-one_of_dvd-one (gcd_divides a 1).1

-- it is at most the greater of both
pub gcd_most : (a b h : ℕ) → a ≤ h → b ≤ h → gcd a b ≤ h
gcd_most a zero h p q = omega (arith, gcd_zero a 0 refl)
gcd_most a (suc b) h p q = omega (arith, le_of_dvd {n = suc b} (omega arith) (gcd_divides a (suc b)).1)
