-- Document 01, 'Lines': 'A line is an even number, at least 2, of digits'; document 02, change 14: at most 19,836 characters.
use Rattle.std.specs.Prelude.{◌≡◌, Bool, true, cond, ◌&&◌, not, List, ℕ, ◌%◌, ◌≤◌, ltb, eqb, length}
use Rattle.theory.specs.Range.{pass}
use Rattle.refusals.specs.declared.Refusal.TheVariants.{Characters, TooLong}
use Rattle.refusals.specs.Verdicts.{Verdict, Fine, Declined}
use Rattle.frames.specs.Digits.{no_digit, digit, bytes}

-- 2: 'The limit in 2 becomes 19,836 characters', two more than a full load has
abbrev pub max_characters : ℕ
max_characters = 19836

abbrev pub is_digit : ℕ → Bool
is_digit c = not (eqb (digit c) no_digit)

unfoldable pub all_digits : List ℕ → Bool
all_digits l = pass (λ i c. is_digit c) 0 l

-- 1: 'empty, odd count, other character' is none of it
unfoldable pub framed : List ℕ → Bool
framed l = not (eqb (length l) 0) && (eqb (length l % 2) 0 && all_digits l)

-- whether a line is a frame; 2 goes before 1
abbrev pub new_frame : List ℕ → Verdict
new_frame l = cond (ltb max_characters (length l)) (Declined TooLong) (cond (framed l) Fine (Declined Characters))

-- a line that is a frame of so many bytes: what the reading functions ask of their line
pub record Framed (l : List ℕ) (count : ℕ) : Type 0 where
  pub digits : framed l ≡ true
  pub whole : count ≡ bytes l
  pub short : length l ≤ max_characters
