-- The first number of a range that passes a test.
use Rattle.std.specs.Prelude.{Bool, true, false, ℕ, zero, suc, Option, Some, None}

-- n, where it passes and none before it does
abbrev pub or_next : Option ℕ → Bool → ℕ → Option ℕ
or_next (Some k) t n = Some k
or_next None true n = Some n
or_next None false n = None

-- the first of 0 to n - 1 that passes the test, if one does
unfoldable pub first_passing : ℕ → (ℕ → Bool) → Option ℕ
first_passing zero p = None
first_passing (suc n) p = or_next (first_passing n p) (p n) n
