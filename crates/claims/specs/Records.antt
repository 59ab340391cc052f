-- Document 02, change 11: what is promised of plan records, over the answer to every line on every block. Nothing else stands in this file; proofs/Records.antt proves the three statements.
-- What follows from each of them stands in proofs/UsesRecords.antt; the name of the law there is in brackets.
use Rattle.std.specs.Prelude.{◌≡◌, true, List, ℕ, ◌*◌, ◌≤◌, ℤ, length, take, drop}
use Rattle.frames.specs.Frames.{all_digits}
use Rattle.frames.specs.Fields.{field_digits}
use Rattle.lines.specs.declared.kind.Kind.{Kind}
use Rattle.lines.specs.declared.kind.Kind.TheVariants.{Screen, Planner, Record}
use Rattle.lines.specs.Kinds.{kind_number}
use Rattle.lines.specs.Layout.{kind_width, kind_of, record_trains, record_bound_field}
use Rattle.replies.specs.Replies.{reply_kind}
use Rattle.replies.specs.Shown.{accepted}
use Rattle.requests.specs.Answer.{Answer}
use Rattle.service.specs.Answer.{answer}

-- where the choices of a record end, in characters of its line or of its reply
abbrev pub choices_end : List ℕ → ℕ
choices_end l = 2 * (record_bound_field (record_trains l)).at

-- ---- 'A screen's answer depends on no bound or cost byte'

-- two lines of kind 0C that are digits, equally long, and the same up to the end of the choices, where the bound begins
pub record SameFront (l k : List ℕ) : Type 0 where
  pub screen : kind_of l ≡ kind_number Screen
  pub digits : (all_digits l ≡ true) × (all_digits k ≡ true)
  pub long : length l ≡ length k
  pub front : take (choices_end l) l ≡ take (choices_end l) k

-- they are answered alike, block and reply, accepted or declined (`other_figures`)
abbrev pub ScreenApart : Type 0
ScreenApart = (l k : List ℕ) → SameFront l k → (b : List ℤ) (buffer : List ℕ) → answer l b buffer ≡ answer k b buffer

-- ---- 'A record that both take shows both the same choices'

-- the line of this kind with what stands behind the first byte
abbrev pub line_with : Kind → List ℕ → List ℕ
line_with k r = field_digits kind_width (kind_number k) r

-- what stands behind the first byte of a line or a reply
abbrev pub behind_kind : List ℕ → List ℕ
behind_kind l = drop (2 * kind_width) l

-- the answer to a record that is read for screens, or for planners
abbrev pub screen_answer : List ℕ → List ℤ → List ℕ → Answer
screen_answer r b buffer = answer (line_with Screen r) b buffer

abbrev pub planner_answer : List ℕ → List ℤ → List ℕ → Answer
planner_answer r b buffer = answer (line_with Planner r) b buffer

-- on any two blocks, in any two buffers: what a screen is shown, n and choices, is what planners are shown up to the bound (`other_shown`)
abbrev pub SameChoices : Type 0
SameChoices =
    (r : List ℕ) (b c : List ℤ) (buffer other : List ℕ)
    → accepted (screen_answer r b buffer).reply ≡ true → accepted (planner_answer r c other).reply ≡ true
    → let shown = (planner_answer r c other).reply in
    behind_kind (screen_answer r b buffer).reply ≡ behind_kind (take (choices_end shown) shown)

-- ---- 'a written record is taken by both straight afterwards, in a buffer as long'

-- a record is taken by screens and by planners, who are shown the record itself, and the block stays: so it is taken in either order
pub record Taken (r : List ℕ) (b : List ℤ) (buffer : List ℕ) : Type 0 where
  pub screen : accepted (screen_answer r b buffer).reply ≡ true
  pub screen_leaves : (screen_answer r b buffer).block ≡ b
  pub planner : (planner_answer r b buffer).reply ≡ field_digits kind_width (reply_kind Planner) r
  pub planner_leaves : (planner_answer r b buffer).block ≡ b

-- of every line of kind 0E that is accepted, on every block, and so after every list of lines from fresh (`taken_after`)
abbrev pub TakenByBoth : Type 0
TakenByBoth =
    (l : List ℕ) (b : List ℤ) (buffer : List ℕ) → kind_of l ≡ kind_number Record → accepted (answer l b buffer).reply ≡ true
    → (again : List ℕ) → length buffer ≤ length again → Taken (behind_kind (answer l b buffer).reply) (answer l b buffer).block again
