-- Fields one after the other: the numbers as lists, and the digits of numbers.
use Rattle.std.specs.Prelude.{List, ℕ, zero, suc, ◌+◌, ◌*◌, ℤ}
use Rattle.theory.specs.Lists.{list_of}
use Rattle.frames.specs.Fields.{field, signed_field, field_digits}

-- a run of `count` fields from byte `at` on
abbrev pub run_of : List ℕ → ℕ → ℕ → ℕ → List ℕ
run_of l at width count = list_of count (λ k. field l (at + width * k) width)

-- the same of numbers in two's complement
abbrev pub signed_run_of : List ℕ → ℕ → ℕ → ℕ → List ℤ
signed_run_of l at width count = list_of count (λ k. signed_field l (at + width * k) width)

-- the digits of n numbers of `width` bytes, before other characters: f 0, f 1 and so on
unfoldable pub run_digits : ℕ → ℕ → (ℕ → ℕ) → List ℕ → List ℕ
run_digits width zero f rest = rest
run_digits width (suc n) f rest = run_digits width n f (field_digits width (f n) rest)
