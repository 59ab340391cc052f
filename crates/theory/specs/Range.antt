-- Tests over a range of numbers, and over the places of a list.
use Rattle.std.specs.Prelude.{Bool, true, ◌&&◌, List, [], ◌∷◌, ℕ, zero, suc, ◌+◌}

-- the test holds at 0 to n - 1
unfoldable pub all : ℕ → (ℕ → Bool) → Bool
all zero p = true
all (suc n) p = all n p && p n

-- the test holds at each place of the list, counted from i, and what stands there. It is `all` over the places (proofs/Range.antt, pass_all),
-- in one pass, so that it can be computed on a whole block
unfoldable pub pass {ℓ} : {A : Type ℓ} → (ℕ → A → Bool) → ℕ → List A → Bool
pass f i [] = true
pass f i (x ∷ l) = f i x && pass f (i + 1) l
