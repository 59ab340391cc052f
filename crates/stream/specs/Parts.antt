-- The same by parts, as reads give them: what one step takes of a part and what is kept for the next. proofs/Whole.antt says that it comes to `printed` of the whole
-- input, however the input is cut into parts (`printed_by_parts`), and that what is printed so far is a front of that, however the input goes on (`printed_so_far`).
use Rattle.std.specs.Prelude.{cond, List, [], ◌∷◌, ◌++◌, ℕ, zero, suc, ◌+◌, ltb, eqb, ℤ, length, take, drop}
use Rattle.tables.specs.WellFormed.{fresh_block}
use Rattle.frames.specs.Frames.{max_characters}
use Rattle.requests.specs.Answer.{Answer, answered}
use Rattle.service.specs.Answer.{answer}
use Rattle.stream.specs.Session.{line_feed, no_line, line_call}

-- how many bytes stand before the first line feed; all, where there is none
unfoldable pub line_length : List ℕ → ℕ
line_length [] = 0
line_length (c ∷ l) = cond (eqb c line_feed) 0 (suc (line_length l))

-- the most that is kept of a line: one character more than a line may have, since longer lines are all declined alike
abbrev pub kept_most : ℕ
kept_most = max_characters + 1

-- the kept line with the first n bytes of a part behind it
unfoldable pub lengthened : List ℕ → ℕ → List ℕ → List ℕ
lengthened line n part = take kept_most (line ++ take n part)

-- a line that has ended is answered, and a line feed ends the reply
unfoldable pub answer_line : List ℕ → List ℤ → Answer
answer_line l b =
    let a = answer l b (line_call l).buffer in
    answered a.block (a.reply ++ line_feed ∷ [])

-- what one step comes to: how many bytes of the part it takes, what is kept of the line then, and what is printed, with the block
pub record Taken : Type 0 where
  pub used : ℕ
  pub line : List ℕ
  pub answer : Answer

-- one step behind a kept line: to the first line feed, or to the end of a part that has none
unfoldable pub next_line : List ℕ → List ℤ → List ℕ → Taken
next_line line b part =
    let n = line_length part in
    let l = lengthened line n part in
    cond (ltb n (length part))
    (record { used = suc n; line = []; answer = answer_line l b })
    (record { used = n; line = l; answer = answered b [] })

-- what many steps come to: what is kept then, and all that is printed
pub record Shown : Type 0 where
  pub line : List ℕ
  pub block : List ℤ
  pub shown : List ℕ

-- so many steps over a part, each from where the one before ended
unfoldable pub steps : ℕ → List ℕ → List ℤ → List ℕ → Shown
steps zero line b part = record { line = line; block = b; shown = [] }
steps (suc f) line b part =
    let t = next_line line b part in
    let s = steps f t.line t.answer.block (drop t.used part) in
    record { line = s.line; block = s.block; shown = t.answer.reply ++ s.shown }

-- a part is done after as many steps as it has bytes, since each takes one or more
unfoldable pub over_part : List ℕ → List ℤ → List ℕ → Shown
over_part line b part = steps (length part) line b part

-- before the first byte: 'starts fresh'
abbrev pub start : Shown
start = record { line = []; block = fresh_block; shown = [] }

-- the steps over one part more, from where the steps before ended
abbrev pub over_more : Shown → List ℕ → Shown
over_more s part =
    let t = over_part s.line s.block part in
    record { line = t.line; block = t.block; shown = s.shown ++ t.shown }

-- the steps over parts, one after the other
unfoldable pub over_parts : Shown → List (List ℕ) → Shown
over_parts s [] = s
over_parts s (p ∷ ps) = over_parts (over_more s p) ps

-- the end of the input: 'a last line without a line end is a line too, unless empty'
unfoldable pub last_answer : List ℕ → List ℤ → Answer
last_answer line b = cond (no_line line) (answered b []) (answer_line line b)

-- all that is printed on an input that comes in parts
abbrev pub by_parts : List (List ℕ) → List ℕ
by_parts parts =
    let s = over_parts start parts in
    s.shown ++ (last_answer s.line s.block).reply
