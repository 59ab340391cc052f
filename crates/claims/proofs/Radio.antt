-- The promises about lines over train radio (specs/Radio.antt) that are of single calls. A second form whose sum is right is answered as its plain form is, in two characters less, and that reply, put into the
-- second form, is the reply; no kind is looked at, as every reply begins as replies do.
use mathlib.Core.Path.{◌≡◌, refl, sym, ap, ◌∙◌}
use mathlib.Core.Bool.{true, false}
use mathlib.Core.List.{List}
use Prim.Native.Nat.{ℕ, ◌+◌, ◌*◌, ◌-◌, ◌≤◌}
use native.Mathlib.Omega.{arith}
use lib.IntN.{ℤ}
use lib.ListN.{length}
use Rattle.theory.proofs.Range.{not_both}
use Rattle.refusals.specs.declared.Refusal.TheVariants.{WrongSum}
use Rattle.tables.specs.WellFormed.{well_formed}
use Rattle.frames.specs.ByteSum.{byte_sum}
use Rattle.frames.specs.Frames.{max_characters, framed}
use Rattle.frames.proofs.Sums.{byte_sum_empty}
use Rattle.lines.specs.declared.kind.Kind.{Kind}
use Rattle.lines.specs.Kinds.{kind_number}
use Rattle.lines.specs.Layout.{kind_of}
use Rattle.kinds.specs.Lines.{kind_request}
use Rattle.reader.proofs.LineAccepted.{line_makes}
use Rattle.reader.proofs.LineKind.{line_known}
use Rattle.replies.specs.Replies.{longest_fixed}
use Rattle.replies.specs.Shown.{accepted}
use Rattle.replies.proofs.Accepted.{refusal_refused}
use Rattle.replies.proofs.Begins.{declined_begins}
use Rattle.requests.specs.Answer.{leaves_block, line_answer}
use Rattle.requests.specs.Wrote.{Asks}
use Rattle.requests.proofs.Begins.{line_begins}
use Rattle.requests.proofs.LineCases.{line_cases}
use Rattle.requests.proofs.Outcomes.{requested_leaves}
use Rattle.radio.specs.Answer.{by_radio}
use Rattle.radio.specs.Forms.{sum_width, radio_line, plain_line, as_plain, plain_reply}
use Rattle.radio.proofs.Cases.{radio_right, form_cases}
use Rattle.radio.proofs.Forms.{known_plain, second, make_second, plain_kind, plain_known}
use Rattle.radio.proofs.Lines.{line_second}
use Rattle.radio.proofs.Replies.{reply_back, reply_sum, reply_even, reply_accepted}
use Rattle.service.specs.Answer.{min_buffer, answer}
use Rattle.service.proofs.AnswerCases.{fixed_fit, answer_cases}
use Rattle.service.proofs.Calls.{answered_form, answered_line}
use Rattle.claims.specs.Radio.{radio_number, RightRadio, AnswersAsPlain, SumRule, EveryKind, LeavesBlock}
use Rattle.claims.proofs.Asking.{kind_known, line_asking, asking_kind, accepted_call, block_cases}
use Rattle.claims.proofs.ByKind.{by_kind_lem}

-- how many characters a plain reply may have in a buffer for its second form
abbrev pub radio_room : List ℕ → ℕ
radio_room buffer = length buffer - 2 * sum_width

pub radio_fits : (buffer : List ℕ) → min_buffer ≤ length buffer → longest_fixed ≤ radio_room buffer
radio_fits buffer h = omega (arith, fixed_fit buffer h)

-- ---- 'answers and acts as its plain form does'

module _ (b : List ℤ) (buffer : List ℕ) (h : min_buffer ≤ length buffer) (right : well_formed b ≡ true) where
  pub right_answered : {l : List ℕ} → RightRadio l → answer l b buffer ≡ by_radio (line_answer (plain_line l) b (radio_room buffer))
  right_answered {l} r = answered_form l b buffer h right ∙ radio_right l b (length buffer) r.second r.sum

pub answers_as_plain : AnswersAsPlain
answers_as_plain l b buffer shorter r right h long =
    let room : radio_room buffer ≡ length shorter = omega (arith, long) in
    let plain = answered_line (plain_line l) b shorter h (known_plain (second r.second).kind (plain_line l) (plain_known l r.second r.sum)) right in
    rw (right_answered b buffer (omega (arith, long, h)) right r, room, plain)
    (record { block = refl; reply = reply_back (line_begins (plain_line l) b (length shorter) (omega (arith, h)) right) })

-- ---- 'Every reply to such a line then ends so too'

pub sum_rule : SumRule
sum_rule l b buffer e right =
    answer_cases l b buffer (λ a. byte_sum a.reply ≡ 0) (λ h. byte_sum_empty) (λ m. absurd (not_both right m))
    (λ h right. form_cases l b (length buffer) (λ a. byte_sum a.reply ≡ 0) (λ n. absurd (not_both e n))
    (λ e s. reply_sum _ (reply_even (line_begins (plain_line l) b (radio_room buffer) (radio_fits buffer h) right)))
    (λ e s. reply_sum _ (reply_even (declined_begins WrongSum))))

-- ---- 'Every kind so far has this second form'

pub every_kind : EveryKind
every_kind k l f known h = let s = line_second k l f known h in (record { second = s.0; sum = s.1 }, s.2)

-- ---- what changes nothing in the block

pub leaves_block_lem : LeavesBlock
leaves_block_lem l b buffer leaves =
    block_cases l b buffer (λ c. c ≡ b) refl
    (λ room h right.
    line_cases (as_plain l) b room h right (λ a. a.block ≡ b) (λ r e. refl)
    (λ q a k. requested_leaves q (as_plain l) b (sym (by_kind_lem leaves_block false (as_plain l) (line_known (as_plain l) b q a.asked)) ∙ leaves)) (λ q a k. refl))

-- ---- calls by radio

-- of the second form of a line of kind k
pub radio_called : (k : Kind) (l : List ℕ) (b : List ℤ) (buffer : List ℕ) → framed l ≡ true → kind_of l ≡ kind_number k → length l + 2 * sum_width ≤ max_characters
    → min_buffer ≤ length buffer → well_formed b ≡ true → answer (radio_line l) b buffer ≡ by_radio (line_answer l b (radio_room buffer))
radio_called k l b buffer f known short h right =
    let s = every_kind k l f known short in
    right_answered b buffer h right s.0 ∙ ap (λ (p : List ℕ). by_radio (line_answer p b (radio_room buffer))) s.1

-- an accepted call of a line that has kind k by radio
pub record RadioCall (k : Kind) (l : List ℕ) (b : List ℤ) (buffer : List ℕ) : Type 0 where
  pub large : min_buffer ≤ length buffer
  pub right : well_formed b ≡ true
  pub form : RightRadio l
  pub known : kind_of (plain_line l) ≡ kind_number k
  pub is : answer l b buffer ≡ by_radio (line_answer (plain_line l) b (radio_room buffer))
  pub accepted_plain : accepted (line_answer (plain_line l) b (radio_room buffer)).reply ≡ true

-- a plain line of that number has no kind, and is not accepted
pub accepted_by_radio : (k : Kind) (l : List ℕ) (b : List ℤ) (buffer : List ℕ) → kind_of l ≡ radio_number k → accepted (answer l b buffer).reply ≡ true → RadioCall k l b buffer
accepted_by_radio k l b buffer known y =
    let c = accepted_call l b buffer y in
    let e = answered_form l b buffer c.0 c.1 in
    form_cases l b (length buffer) (λ a. accepted a.reply ≡ true → answer l b buffer ≡ a → RadioCall k l b buffer)
    (λ n z is.
    let w = line_asking l b (length buffer) (omega (arith, c.0)) c.1 z in
    let f = (line_makes l b w.request w.asks.asked).0 in
    absurd (not_both (make_second k l f.digits f.short known) n))
    (λ t s z is.
    record {
      large = c.0;
      right = c.1;
      form = record { second = t; sum = s };
      known = omega (arith, plain_kind l t s, known);
      is = is;
      accepted_plain = sym (reply_accepted (line_begins (plain_line l) b (radio_room buffer) (radio_fits buffer c.0) c.1)) ∙ z;
    })
    (λ t s z is. absurd (not_both z (reply_accepted (declined_begins WrongSum) ∙ refusal_refused WrongSum))) (rw e at y) e

-- which asks what lines of kind k ask
pub radio_asks : {k : Kind} {l : List ℕ} {b : List ℤ} {buffer : List ℕ} → RadioCall k l b buffer → Asks (plain_line l) b (kind_request k (plain_line l) b) (radio_room buffer)
radio_asks {k} {l} {b} {buffer} w =
    asking_kind k (line_asking (plain_line l) b (radio_room buffer) (radio_fits buffer w.large) w.right w.accepted_plain) (kind_known k (plain_line l) w.known)

-- and whose reply is the plain one again
pub radio_reply_back : {k : Kind} {l : List ℕ} {b : List ℤ} {buffer : List ℕ} → RadioCall k l b buffer → plain_reply (answer l b buffer).reply ≡ (line_answer (plain_line l) b (radio_room buffer)).reply
radio_reply_back {k} {l} {b} {buffer} w = rw w.is (reply_back (line_begins (plain_line l) b (radio_room buffer) (radio_fits buffer w.large) w.right))
