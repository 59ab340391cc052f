-- Document 01, 'Replies', the other way round: the figures that a reply shows, read back from its characters by the widths of its fields.
use Rattle.std.specs.Prelude.{Bool, not, ◌&&◌, List, ℕ, ◌+◌, ◌*◌, ◌-◌, ◌^◌, ltb, eqb, length, take}
use Rattle.theory.specs.Lists.{nth}
use Rattle.frames.specs.Fields.{field}
use Rattle.lines.specs.Layout.{count_width, figure_width}
use Rattle.replies.specs.Replies.{bytes_in, choice_width, refusal_widths, refusal_byte, bound_widths, certify_widths, search_widths, reason_widths, order_widths}

-- field k of a reply with fields of these widths
abbrev pub shown_in : List ℕ → ℕ → List ℕ → ℕ
shown_in widths k reply = field reply (bytes_in (take k widths)) (nth widths k)

-- number i of a run of fields of `width` bytes behind them
abbrev pub shown_behind : List ℕ → ℕ → ℕ → List ℕ → ℕ
shown_behind widths width i reply = field reply (bytes_in widths + width * i) width

-- the first byte, whatever follows it
abbrev pub kind_shown : List ℕ → ℕ
kind_shown reply = field reply 0 1

-- 'A line is accepted if its reply isn't empty and doesn't begin with FF'
unfoldable pub accepted : List ℕ → Bool
accepted reply = ltb 0 (length reply) && not (eqb (kind_shown reply) refusal_byte)

-- 'FF and the number as one byte'
abbrev pub number_shown : List ℕ → ℕ
number_shown reply = shown_in refusal_widths 1 reply

-- '81 to 84, c0 in parts (6), bound in points (6)'; '88 with constant and bound'; '89 as for a load'
abbrev pub constant_shown : List ℕ → ℕ
constant_shown reply = shown_in bound_widths 1 reply

abbrev pub bound_shown : List ℕ → ℕ
bound_shown reply = shown_in bound_widths 2 reply

-- '85, 01 if reached else 00, E (8), W (3)'
abbrev pub flag_shown : List ℕ → ℕ
flag_shown reply = shown_in certify_widths 1 reply

abbrev pub weighted_shown : List ℕ → ℕ
weighted_shown reply = shown_in certify_widths 2 reply

abbrev pub full_weight_shown : List ℕ → ℕ
full_weight_shown reply = shown_in certify_widths 3 reply

-- '86, 01 ended or 00 spent, count (4), cost (6), one byte a train'
abbrev pub ending_shown : List ℕ → ℕ
ending_shown reply = shown_in search_widths 1 reply

abbrev pub says_ended : List ℕ → Bool
says_ended reply = eqb (ending_shown reply) 1

-- document 02, change 5: 'A search that ends without a plan says 02'
abbrev pub says_ended_without : List ℕ → Bool
says_ended_without reply = eqb (ending_shown reply) 2

abbrev pub count_shown : List ℕ → ℕ
count_shown reply = shown_in search_widths 2 reply

abbrev pub cost_shown : List ℕ → ℕ
cost_shown reply = shown_in search_widths 3 reply

abbrev pub plan_shown : List ℕ → ℕ → ℕ
plan_shown reply i = shown_behind search_widths choice_width i reply

-- 'With no plan yet .., cost and plan are all FF'
abbrev pub shows_plan : List ℕ → Bool
shows_plan reply = not (eqb (cost_shown reply) (256 ^ figure_width - 1))

-- document 02, change 8: '8A, reason, train, the last FF unless 02'
abbrev pub reason_shown : List ℕ → ℕ
reason_shown reply = shown_in reason_widths 1 reply

abbrev pub train_shown : List ℕ → ℕ
train_shown reply = shown_in reason_widths 2 reply

-- document 02, change 10: '8B and the order': the train that is to be tried d-th
abbrev pub order_shown : List ℕ → ℕ → ℕ
order_shown reply d = shown_behind order_widths count_width d reply
