-- Document 01, 'Replies': the characters of each reply, 'digits as lines are, two characters a byte'. A reply is numbers in fields, one after the other; how many bytes each field has stands once.
use Rattle.std.specs.Prelude.{Bool, cond, List, [], ◌∷◌, ℕ, ◌+◌, ◌*◌, ◌-◌, ◌^◌, ℤ, get_or, length}
use Rattle.theory.specs.Lists.{nth}
use Rattle.refusals.specs.declared.Refusal.{Refusal}
use Rattle.refusals.specs.Refusals.{refusal_number}
use Rattle.tables.specs.Block.{constant, max_trains}
use Rattle.bounds.specs.Bounds.{bound_of}
use Rattle.certificates.specs.declared.certify.Ceiling.{Ceiling}
use Rattle.reasons.specs.declared.Reason.{Reason}
use Rattle.reasons.specs.Reasons.{reason_number, reason_train}
use Rattle.frames.specs.Fields.{field_digits}
use Rattle.frames.specs.Runs.{run_digits}
use Rattle.lines.specs.declared.kind.Kind.{Kind}
use Rattle.lines.specs.declared.kind.Kind.TheVariants.{Certify, Search, Explain, Order, Screen}
use Rattle.lines.specs.Kinds.{kind_number}
use Rattle.lines.specs.Layout.{kind_width, count_width, figure_width}
use Rattle.lines.specs.Text.{choices_digits, record_digits}
use Rattle.search.specs.declared.answer.Found.{Found}
use Rattle.search.specs.Answer.{is_found, found_cost, found_plan}

-- ---- fields one after the other

-- the digits of numbers in fields of these widths, before other characters
unfoldable pub fields_digits : List ℕ → List ℕ → List ℕ → List ℕ
fields_digits [] numbers rest = rest
fields_digits (w ∷ widths) [] rest = rest
fields_digits (w ∷ widths) (v ∷ numbers) rest = field_digits w v (fields_digits widths numbers rest)

-- how many bytes fields of these widths have
abbrev pub bytes_in : List ℕ → ℕ
bytes_in [] = 0
bytes_in (w ∷ widths) = w + bytes_in widths

-- 'one byte a train'
abbrev pub choice_width : ℕ
choice_width = 1

-- ---- 'A declined line answers FF and the number as one byte'

abbrev pub refusal_widths : List ℕ
refusal_widths = 1 ∷ 1 ∷ []

abbrev pub refusal_byte : ℕ
refusal_byte = 255

abbrev pub refusal_numbers : Refusal → List ℕ
refusal_numbers r = refusal_byte ∷ refusal_number r ∷ []

unfoldable pub refusal_reply : Refusal → List ℕ
refusal_reply r = fields_digits refusal_widths (refusal_numbers r) []

-- ---- 'Kinds 01 to 04: 81 to 84', 'Certify: 85', 'Search: 86', and 88 for 08, 89 for 09, 8A for 0A, 8B for 0B, 8C for 0C, 8D for 0D, 8E for 0E

-- the first byte of the reply to a line of this first byte
abbrev pub reply_byte : ℕ → ℕ
reply_byte number = 128 + number

abbrev pub reply_kind : Kind → ℕ
reply_kind kind = reply_byte (kind_number kind)

-- ---- '81 to 84, c0 in parts (6), bound in points (6)'; '88 with constant and bound'

abbrev pub bound_widths : List ℕ
bound_widths = 1 ∷ figure_width ∷ figure_width ∷ []

abbrev pub bound_numbers : Kind → List ℤ → List ℕ
bound_numbers kind b = reply_kind kind ∷ constant b ∷ bound_of b ∷ []

unfoldable pub bound_reply : Kind → List ℤ → List ℕ
bound_reply kind b = fields_digits bound_widths (bound_numbers kind b) []

-- ---- 'Certify: 85, 01 if reached else 00, E (8), W (3)'

abbrev pub certify_widths : List ℕ
certify_widths = 1 ∷ 1 ∷ 8 ∷ 3 ∷ []

abbrev pub flag : Bool → ℕ
flag t = cond t 1 0

abbrev pub certify_numbers : ℕ → Ceiling → List ℕ
certify_numbers full_weight c = reply_kind Certify ∷ flag c.reached ∷ c.weighted ∷ full_weight ∷ []

unfoldable pub certify_reply : ℕ → Ceiling → List ℕ
certify_reply full_weight c = fields_digits certify_widths (certify_numbers full_weight c) []

-- ---- 'Search: 86, 01 ended or 00 spent, count (4), cost (6), one byte a train'

-- of the fields before the trains' bytes
abbrev pub search_widths : List ℕ
search_widths = 1 ∷ 1 ∷ 4 ∷ figure_width ∷ []

-- '01 ended or 00 spent', and document 02, change 5: 'A search that ends without a plan says 02'
abbrev pub ending : Found → ℕ
ending f = cond f.ended (cond (is_found f) 1 2) 0

-- 'With no plan yet .., cost and plan are all FF'
abbrev pub shown_cost : Found → ℕ
shown_cost f = cond (is_found f) (found_cost f) (256 ^ figure_width - 1)

abbrev pub shown_choice : Found → ℕ → ℕ
shown_choice f i = cond (is_found f) (get_or (found_plan f) i 0) (256 ^ choice_width - 1)

abbrev pub search_numbers : Found → List ℕ
search_numbers f = reply_kind Search ∷ ending f ∷ f.count ∷ shown_cost f ∷ []

-- the choices of n trains
abbrev pub plan_digits : ℕ → Found → List ℕ
plan_digits n f = run_digits choice_width n (shown_choice f) []

unfoldable pub search_reply : ℕ → Found → List ℕ
search_reply n f = fields_digits search_widths (search_numbers f) (plan_digits n f)

-- ---- document 02, change 8: '8A, reason, train'

abbrev pub reason_widths : List ℕ
reason_widths = 1 ∷ 1 ∷ 1 ∷ []

abbrev pub reason_numbers : Reason → List ℕ
reason_numbers r = reply_kind Explain ∷ reason_number r ∷ reason_train r ∷ []

unfoldable pub reason_reply : Reason → List ℕ
reason_reply r = fields_digits reason_widths (reason_numbers r) []

-- ---- document 02, change 10: 'The reply is 8B and the order', one byte a train

-- of the field before the trains' bytes
abbrev pub order_widths : List ℕ
order_widths = 1 ∷ []

abbrev pub order_numbers : List ℕ
order_numbers = reply_kind Order ∷ []

-- numbers of trains or of choices, one byte each
abbrev pub numbers_digits : List ℕ → List ℕ
numbers_digits numbers = run_digits count_width (length numbers) (nth numbers) []

unfoldable pub order_reply : List ℕ → List ℕ
order_reply trains = fields_digits order_widths order_numbers (numbers_digits trains)

-- ---- document 02, change 11: '8C, n and choices', '8D and the record', '8E, record'

unfoldable pub screen_reply : List ℕ → List ℕ
screen_reply choices = field_digits kind_width (reply_kind Screen) (choices_digits choices [])

unfoldable pub record_reply : Kind → List ℕ → ℕ → ℕ → List ℕ
record_reply kind choices bound cost = field_digits kind_width (reply_kind kind) (record_digits choices bound cost)

-- ---- how long replies are

-- the most characters of a fixed reply: a search's, of as many trains as there may be
abbrev pub longest_fixed : ℕ
longest_fixed = 2 * (bytes_in search_widths + choice_width * max_trains)

-- the most characters of any reply: a saved line's, of a study that has all that there may be
abbrev pub longest_reply : ℕ
longest_reply = 19834
