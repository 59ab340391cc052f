-- The number of tries, size by size. Product and sum so far are within the limit, so that the next ones fit; a sum above it settles the question, since later ones only grow.
use mathlib.Core.Path.{◌≡◌, sym, ap, ap₂, ◌∙◌}
use mathlib.Core.Bool.{true, false}
use Prim.Native.Nat.{ℕ, ◌+◌, ◌*◌, ◌<◌, ◌≤◌}
use native.Mathlib.Nat.{mul-le-mul}
use native.Mathlib.Omega.{arith}
use lib.Dec.{leb}
use borrow.Author.Tests.{le-leb, lt-leb}
use Rattle.theory.specs.Product.{product}
use Rattle.theory.specs.Tries.{tries_of}
use Rattle.theory.proofs.Product.{product_none, product_last}
use Rattle.theory.proofs.Tries.{tries_none, tries_next, tries_rise}
use Rattle.tables.specs.Block.{max_choices}
use Rattle.dearest.specs.Dearest.{max_tries}

-- the plans of i trains, p, and their tries, t
pub record SoFar (f : ℕ → ℕ) (i p t : ℕ) : Type 0 where
  pub plans : p ≡ product f 0 i
  pub tries : t ≡ tries_of i f
  pub plans_within : p ≤ max_tries
  pub tries_within : t ≤ max_tries

pub so_far_none : (f : ℕ → ℕ) → SoFar f 0 1 0
so_far_none f = record { plans = sym (product_none f 0); tries = sym (tries_none f 0); plans_within = omega arith; tries_within = omega arith }

module _ {f : ℕ → ℕ} {i p t : ℕ} (s : SoFar f i p t) where
  -- the next product fits
  pub next_small : (d : ℕ) → d ≤ max_choices → p * d ≤ max_tries * max_choices
  next_small d h = mul-le-mul s.plans_within h

  next_plans : p * f i ≡ product f 0 (i + 1)
  next_plans = ap₂ ◌*◌ s.plans (ap f (omega arith)) ∙ sym (product_last f 0 i)

  next_tries : t + p * f i ≡ tries_of (i + 1) f
  next_tries = ap₂ ◌+◌ s.tries next_plans ∙ sym (tries_next f i)

  pub so_far_next : t + p * f i ≤ max_tries → SoFar f (i + 1) (p * f i) (t + p * f i)
  so_far_next h = record { plans = next_plans; tries = next_tries; plans_within = omega arith; tries_within = h }

  -- a sum above the limit settles it
  pub above_settles : (n : ℕ) → i < n → max_tries < t + p * f i → false ≡ leb (tries_of n f) max_tries
  above_settles n h q = sym (lt-leb (tries_of n f) max_tries (omega (arith, next_tries, tries_rise f (i + 1) n (omega arith))))

  -- and the last sum does
  pub last_settles : (n : ℕ) → i ≡ n → true ≡ leb (tries_of n f) max_tries
  last_settles n e = sym (le-leb (tries_of n f) max_tries (omega (arith, s.tries, s.tries_within, ap (λ (m : ℕ). tries_of m f) e)))

-- what the loop asks
pub ruleset sizes_so_far = (next_small, last_settles)
