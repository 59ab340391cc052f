-- Document 01, 'Replies': 'A program reads standard input, starts fresh, and prints a reply line for each input line; a last line without a line end is a line too,
-- unless empty.' From the bytes of the whole input to the bytes of the whole output.
use Rattle.std.specs.Prelude.{Bool, cond, List, [], ◌∷◌, ◌++◌, map, ℕ, eqb, ℤ, length, replicate}
use Rattle.tables.specs.WellFormed.{fresh_block}
use Rattle.radio.specs.Answer.{longest_form}
use Rattle.service.specs.Calls.{Call, Exchange, exchanges}

-- 'line end': a line feed
abbrev pub line_feed : ℕ
line_feed = 10

-- the line that a byte ends, if any, where `front` stands before that byte in its line
abbrev pub ended_by : ℕ → List ℕ → List (List ℕ)
ended_by c front = cond (eqb c line_feed) (front ∷ []) []

-- what then stands before the next byte
abbrev pub front_after : ℕ → List ℕ → List ℕ
front_after c front = cond (eqb c line_feed) [] (front ++ c ∷ [])

-- 'unless empty': where the input ends behind `front`, there is no last line
abbrev pub no_line : List ℕ → Bool
no_line front = eqb (length front) 0

-- the lines of an input that begins behind `front`; 'a last line without a line end is a line too, unless empty'
unfoldable pub lines_from : List ℕ → List ℕ → List (List ℕ)
lines_from front [] = cond (no_line front) [] (front ∷ [])
lines_from front (c ∷ rest) = ended_by c front ++ lines_from (front_after c front) rest

-- the lines of a whole input
abbrev pub input_lines : List ℕ → List (List ℕ)
input_lines input = lines_from [] input

-- a buffer that holds the longest reply in either form
unfoldable pub reply_buffer : List ℕ
reply_buffer = replicate longest_form 0

-- the call that a line makes; its buffer counts only by being large enough
abbrev pub line_call : List ℕ → Call
line_call l = record { line = l; buffer = reply_buffer }

abbrev pub line_calls : List (List ℕ) → List Call
line_calls ls = map line_call ls

-- 'prints a reply line for each input line'
unfoldable pub reply_lines : List Exchange → List ℕ
reply_lines [] = []
reply_lines (e ∷ es) = (e.reply ++ line_feed ∷ []) ++ reply_lines es

-- all that is printed on an input that begins behind `front`, from block b on
unfoldable pub printed_from : List ℕ → List ℤ → List ℕ → List ℕ
printed_from front b input = reply_lines (exchanges b (line_calls (lines_from front input)))

-- 'starts fresh': all that is printed on an input
abbrev pub printed : List ℕ → List ℕ
printed input = printed_from [] fresh_block input
