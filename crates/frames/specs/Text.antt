-- Quoted text as characters: the list of the digits, and lines as examples write them.
use Rattle.std.specs.Prelude.{List, [], ◌∷◌, ℕ, replicate}
use Prim.Native.Char.{code}
use Prim.Native.String.{String, [] as empty, ◌∷◌ as char-then}

-- the characters of a text
unfoldable pub codes : String → List ℕ
codes empty = []
codes (char-then c s) = code c ∷ codes s

-- so many times the digit 0
unfoldable pub zeros : ℕ → List ℕ
zeros n = replicate n 48
