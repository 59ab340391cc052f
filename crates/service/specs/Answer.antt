-- Document 01: the answer to a call, from line, block and buffer to the block and the reply.
use Rattle.std.specs.Prelude.{cond, List, [], ℕ, ltb, ℤ, length}
use Rattle.refusals.specs.declared.Refusal.TheVariants.{Malformed}
use Rattle.tables.specs.WellFormed.{well_formed}
use Rattle.requests.specs.Answer.{Answer, answered, declined}
use Rattle.radio.specs.Answer.{form_answer}

-- 17: 'the buffer of 17 becomes 74 for all lines', two more than the longest fixed reply has
abbrev pub min_buffer : ℕ
min_buffer = 74

-- 'Order: 17, 16', then the line; 17 'hands back an empty part and writes nothing'. Of the buffer its length counts, and nothing else
unfoldable pub answer : List ℕ → List ℤ → List ℕ → Answer
answer l b buffer = cond (ltb (length buffer) min_buffer) (answered b []) (cond (well_formed b) (form_answer l b (length buffer)) (declined b Malformed))
