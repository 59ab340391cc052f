-- Which lines an input has: 'a last line without a line end is a line too, unless empty'; an empty line inside the input is a line.
use mathlib.Core.Path.{◌≡◌, refl}
use mathlib.Core.List.{[], ◌∷◌}
use Rattle.stream.specs.Session.{lines_from, input_lines}

-- nothing
none : input_lines [] ≡ []
unfolding lines_from
none = refl

-- a line feed alone: an empty line
empty_line : input_lines (10 ∷ []) ≡ [] ∷ []
unfolding lines_from
empty_line = refl

-- "04", a line feed, a line feed, "05"
last_without_end : input_lines (48 ∷ 52 ∷ 10 ∷ 10 ∷ 48 ∷ 53 ∷ []) ≡ (48 ∷ 52 ∷ []) ∷ [] ∷ (48 ∷ 53 ∷ []) ∷ []
unfolding lines_from
last_without_end = refl
