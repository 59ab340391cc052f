-- Document 01, 'Lines': 'digits 0-9 A-F', two to a byte.
use Rattle.std.specs.Prelude.{cond, List, [], ◌∷◌, ℕ, ◌+◌, ◌*◌, ◌/◌, ◌%◌, leb, eqb, length, get_or}
use Rattle.frames.specs.Text.{codes}

-- 'digits 0-9 A-F': the sixteen characters, in the order of their values
unfoldable pub digits : List ℕ
unfolding codes
digits = codes "0123456789ABCDEF"

-- how many characters of a list stand before c; all of them, where c is none
unfoldable pub place_of : ℕ → List ℕ → ℕ
place_of c [] = 0
place_of c (d ∷ l) = cond (eqb c d) 0 (1 + place_of c l)

-- no value: as many as there are digits
abbrev pub no_digit : ℕ
no_digit = 16

-- the value of a digit: its place among the sixteen, counted from 0; `no_digit` for every other character
unfoldable pub digit : ℕ → ℕ
unfolding digits place_of
digit c = place_of c digits

-- the digit of a value
unfoldable pub digit_of : ℕ → ℕ
digit_of v = cond (leb v 9) (v + 48) (v + 55)

-- byte i of a line
unfoldable pub byte_at : List ℕ → ℕ → ℕ
byte_at l i = 16 * digit (get_or l (2 * i) 0) + digit (get_or l (2 * i + 1) 0)

-- how many bytes a line has
abbrev pub bytes : List ℕ → ℕ
bytes l = length l / 2

-- the two digits of a byte, before other characters
abbrev pub byte_digits : ℕ → List ℕ → List ℕ
byte_digits v l = digit_of (v / 16) ∷ digit_of (v % 16) ∷ l
