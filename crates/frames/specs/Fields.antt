-- Document 01, 'Lines': 'Numbers are big-endian', some two's complement. One definition over the width.
use Rattle.std.specs.Prelude.{cond, List, ℕ, zero, suc, ◌+◌, ◌*◌, ◌-◌, ◌/◌, ◌%◌, ◌^◌, ltb, ℤ, pos, negsuc}
use Rattle.frames.specs.Digits.{byte_at, byte_digits}

-- how many bytes the widest field has: a lift or a move
abbrev pub max_width : ℕ
max_width = 6

-- the number of `width` bytes from byte `at` on
unfoldable pub field : List ℕ → ℕ → ℕ → ℕ
field l at zero = 0
field l at (suc w) = 256 * field l at w + byte_at l (at + w)

-- the same, 'two's complement'
unfoldable pub signed : ℕ → ℕ → ℤ
signed width v = cond (ltb (2 * v) (256 ^ width)) (pos v) (negsuc (256 ^ width - v - 1))

abbrev pub signed_field : List ℕ → ℕ → ℕ → ℤ
signed_field l at width = signed width (field l at width)

-- the digits of a number of `width` bytes, before other characters: what a reply writes
unfoldable pub field_digits : ℕ → ℕ → List ℕ → List ℕ
field_digits zero v l = l
field_digits (suc w) v l = field_digits w (v / 256) (byte_digits (v % 256) l)
