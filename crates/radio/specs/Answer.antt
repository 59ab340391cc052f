-- Document 02, change 14: the answer to a line in either form, on a well-formed block.
use Rattle.std.specs.Prelude.{cond, List, ℕ, ◌+◌, ◌*◌, ◌-◌, eqb, ℤ}
use Rattle.refusals.specs.declared.Refusal.TheVariants.{WrongSum}
use Rattle.frames.specs.ByteSum.{byte_sum}
use Rattle.replies.specs.Replies.{longest_reply}
use Rattle.requests.specs.Answer.{Answer, answered, declined, line_answer}
use Rattle.radio.specs.Forms.{sum_width, is_radio, plain_line, radio_reply}

-- the most characters of a reply in either form
abbrev pub longest_form : ℕ
longest_form = longest_reply + 2 * sum_width

-- an answer whose reply goes out in the second form
abbrev pub by_radio : Answer → Answer
by_radio a = answered a.block (radio_reply a.reply)

-- 'such a line, if its sum is right .., answers and acts as its plain form does'; '25, wrong sum, after 3 and before 4'. Its reply is still a plain one
abbrev pub plain_answer : List ℕ → List ℤ → ℕ → Answer
plain_answer l b room = cond (eqb (byte_sum l) 0) (line_answer (plain_line l) b room) (declined b WrongSum)

-- 'in a buffer two bytes shorter'
unfoldable pub radio_answer : List ℕ → List ℤ → ℕ → Answer
radio_answer l b room = by_radio (plain_answer l b (room - 2 * sum_width))

-- the answer to a line in either form, where the reply may have `room` characters
unfoldable pub form_answer : List ℕ → List ℤ → ℕ → Answer
form_answer l b room = cond (is_radio l) (radio_answer l b room) (line_answer l b room)
