-- Document 02, change 14: what is promised of lines over train radio, over every line, block and buffer. Nothing else stands in this file; proofs/Radio.antt, RadioScreens.antt, RadioSaves.antt and
-- RadioRecords.antt prove the statements. Demand 3 and all that is said of lists holds lines in either form: it is of their lines and replies 'with the two additions removed' (`plain_exchanges` in Ledger.antt).
-- What follows from each statement here stands in proofs/UsesRadio.antt; the name of the law there is in brackets.
use Rattle.std.specs.Prelude.{◌≡◌, true, false, ◌⊎◌, List, [], ℕ, ◌+◌, ◌*◌, ◌<◌, ◌≤◌, eqb, ℤ, length, take}
use Rattle.tables.specs.WellFormed.{well_formed}
use Rattle.frames.specs.ByteSum.{byte_sum}
use Rattle.frames.specs.Fields.{field_digits}
use Rattle.frames.specs.Frames.{max_characters, all_digits, framed}
use Rattle.lines.specs.declared.kind.Kind.{Kind}
use Rattle.lines.specs.declared.kind.Kind.TheVariants.{Load, Save, Screen, Planner, Record, Dearest}
use Rattle.lines.specs.Kinds.{kind_number}
use Rattle.lines.specs.Layout.{kind_width, kind_of}
use Rattle.replies.specs.Replies.{reply_kind}
use Rattle.replies.specs.Shown.{accepted}
use Rattle.requests.specs.Answer.{Answer, answered, leaves_block}
use Rattle.radio.specs.Forms.{radio_added, sum_width, is_radio, radio_line, plain_line, as_plain, plain_reply}
use Rattle.service.specs.Answer.{min_buffer, answer}
use Rattle.claims.specs.Ledger.{by_kind}
use Rattle.claims.specs.Records.{choices_end, line_with, behind_kind}
use Rattle.claims.specs.Saves.{save_line}

-- the kind of a line in its second form
abbrev pub radio_number : Kind → ℕ
radio_number k = kind_number k + radio_added

-- a second form with a right sum, 'within the limit of 2'
pub record RightRadio (l : List ℕ) : Type 0 where
  pub second : is_radio l ≡ true
  pub sum : byte_sum l ≡ 0

-- ---- 'With the two additions removed, such a line .. answers and acts as its plain form does in a buffer two bytes shorter, that one of 74 or more'

-- an answer, with the additions of its reply removed, is this one
pub record AnswersAs (a plain : Answer) : Type 0 where
  -- (`same_block`)
  pub block : a.block ≡ plain.block
  -- (`other_reply`)
  pub reply : plain_reply a.reply ≡ plain.reply

abbrev pub AnswersAsPlain : Type 0
AnswersAsPlain =
    (l : List ℕ) (b : List ℤ) (buffer shorter : List ℕ) → RightRadio l → well_formed b ≡ true → min_buffer ≤ length shorter → length buffer ≡ length shorter + 2 * sum_width
    → AnswersAs (answer l b buffer) (answer (plain_line l) b shorter)

-- ---- 'Every reply to such a line then ends so too', 'for all kinds together': refused or not, with a right sum or a wrong one; an empty reply has the sum 0 (`wrong_reply`)
abbrev pub SumRule : Type 0
SumRule = (l : List ℕ) (b : List ℤ) (buffer : List ℕ) → is_radio l ≡ true → well_formed b ≡ true → byte_sum (answer l b buffer).reply ≡ 0

-- ---- 'Every kind so far has this second form'

-- of every line that is a frame of a kind, and two characters within the limit (`has_form`)
abbrev pub EveryKind : Type 0
EveryKind =
    (k : Kind) (l : List ℕ) → framed l ≡ true → kind_of l ≡ kind_number k → length l + 2 * sum_width ≤ max_characters
    → RightRadio (radio_line l) × (plain_line (radio_line l) ≡ l)

-- ---- 'In the second form a screen's answer depends on bound and cost bytes only by whether the sum is right'

-- two lines of kind 4C that are digits, equally long, the same up to the end of the choices, and both right or both wrong in their sums
pub record SameScreens (l k : List ℕ) : Type 0 where
  pub screen : kind_of l ≡ radio_number Screen
  pub digits : (all_digits l ≡ true) × (all_digits k ≡ true)
  pub long : length l ≡ length k
  pub front : take (choices_end l) l ≡ take (choices_end l) k
  pub sums : eqb (byte_sum l) 0 ≡ eqb (byte_sum k) 0

-- they are answered alike, block and reply, accepted or declined (`other_figures_by_radio`)
abbrev pub ScreensApart : Type 0
ScreensApart = (l k : List ℕ) → SameScreens l k → (b : List ℤ) (buffer : List ℕ) → answer l b buffer ≡ answer k b buffer

-- ---- '07, 0A and 0C to 0F change nothing in the block', nor do 05 and 06, in either form, on every block (`leaves_by_radio`)
abbrev pub LeavesBlock : Type 0
LeavesBlock = (l : List ℕ) (b : List ℤ) (buffer : List ℕ) → by_kind leaves_block false (as_plain l) ≡ true → (answer l b buffer).block ≡ b

-- ---- what is answered by radio goes back by radio: 'answers with a load line' of a save and of the dearest study, in the second form

-- a second form with a right sum, which every well-formed block takes as a load
pub record LoadsByRadio (l : List ℕ) : Type 0 where
  pub right : RightRadio l
  pub load : kind_of l ≡ radio_number Load
  pub taken : (b : List ℤ) (buffer : List ℕ) → well_formed b ≡ true → min_buffer ≤ length buffer → accepted (answer l b buffer).reply ≡ true

-- the reply to every accepted 47 or 4F line, on every block and in every buffer (`plain_saved`)
abbrev pub RepliesLoad : Type 0
RepliesLoad =
    (l : List ℕ) (b : List ℤ) (buffer : List ℕ) → (kind_of l ≡ radio_number Save) ⊎ (kind_of l ≡ radio_number Dearest) → accepted (answer l b buffer).reply ≡ true
    → LoadsByRadio (answer l b buffer).reply

-- a save by radio of the block b gives the line l in every buffer of 74 bytes or more that holds it, in a shorter one of 74 or more nothing, and leaves the block
pub record SavesByRadio (b : List ℤ) (l : List ℕ) : Type 0 where
  pub given : (buffer : List ℕ) → min_buffer ≤ length buffer → length l ≤ length buffer → answer (radio_line save_line) b buffer ≡ answered b l
  pub late : (buffer : List ℕ) → min_buffer ≤ length buffer → length buffer < length l → answer (radio_line save_line) b buffer ≡ answered b []

-- 'Saving straight after any accepted line of kind 01 gives back that line', by radio too (`saved_by_radio`)
abbrev pub SaveByRadio : Type 0
SaveByRadio = (l : List ℕ) (b : List ℤ) (buffer : List ℕ) → kind_of l ≡ radio_number Load → accepted (answer l b buffer).reply ≡ true → SavesByRadio (answer l b buffer).block l

-- the second form of the line of this kind with this record
abbrev pub radio_with : Kind → List ℕ → List ℕ
radio_with k r = radio_line (line_with k r)

-- a record is taken by screens and by planners, who are shown the record itself, by radio, and the block stays
pub record TakenByRadio (r : List ℕ) (b : List ℤ) (buffer : List ℕ) : Type 0 where
  pub screen : accepted (answer (radio_with Screen r) b buffer).reply ≡ true
  pub screen_leaves : (answer (radio_with Screen r) b buffer).block ≡ b
  pub planner : plain_reply (answer (radio_with Planner r) b buffer).reply ≡ field_digits kind_width (reply_kind Planner) r
  pub planner_leaves : (answer (radio_with Planner r) b buffer).block ≡ b

-- 'a written record is taken by both straight afterwards, in a buffer as long', by radio too (`recorded_by_radio`)
abbrev pub RecordByRadio : Type 0
RecordByRadio =
    (l : List ℕ) (b : List ℤ) (buffer : List ℕ) → kind_of l ≡ radio_number Record → accepted (answer l b buffer).reply ≡ true
    → (again : List ℕ) → length buffer ≤ length again → TakenByRadio (behind_kind (plain_reply (answer l b buffer).reply)) (answer l b buffer).block again
