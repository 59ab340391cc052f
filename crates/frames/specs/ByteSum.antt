-- Document 02, change 14: 'the sum of all its bytes, carried round at 256'.
use Rattle.std.specs.Prelude.{List, ℕ, ◌%◌}
use Rattle.theory.specs.Sum.{sum}
use Rattle.frames.specs.Digits.{byte_at, bytes}

-- the sum of all bytes of a line, 'carried round at 256'
unfoldable pub byte_sum : List ℕ → ℕ
byte_sum l = sum (bytes l) (byte_at l) % 256
