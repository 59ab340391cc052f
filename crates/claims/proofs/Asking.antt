-- What an accepted line asks: the request of its kind. A line of a kind is no second form, so that the call of one that makes a request is answered by that line; and the block that a call leaves is the
-- one that it had, or the one that its plain line leaves, whatever its form.
use Rattle.std.specs.Prelude.{Ok}
use mathlib.Core.Path.{◌≡◌, ap, subst, ◌∙◌}
use mathlib.Core.Bool.{true}
use mathlib.Core.List.{List}
use Prim.Native.Nat.{ℕ, ◌*◌, ◌-◌, ◌≤◌}
use native.Mathlib.Omega.{arith}
use lib.IntN.{ℤ}
use lib.ListN.{length}
use Rattle.theory.proofs.Range.{not_both}
use Rattle.refusals.specs.declared.Refusal.TheVariants.{Malformed}
use Rattle.tables.specs.WellFormed.{well_formed}
use Rattle.lines.specs.declared.kind.Kind.{Kind}
use Rattle.lines.specs.declared.request.Request.{Request}
use Rattle.lines.specs.Kinds.{kind_number, new_kind, request_kind}
use Rattle.lines.specs.Layout.{kind_of}
use Rattle.lines.proofs.KindNumbers.{number_kind}
use Rattle.kinds.specs.Lines.{kind_request}
use Rattle.reader.proofs.LineAccepted.{line_makes}
use Rattle.reader.proofs.LineKind.{line_known}
use Rattle.replies.specs.Replies.{longest_fixed}
use Rattle.replies.specs.Shown.{accepted}
use Rattle.replies.proofs.Accepted.{empty_refused, refusal_refused}
use Rattle.requests.specs.Answer.{line_answer}
use Rattle.requests.specs.Wrote.{Asks}
use Rattle.requests.proofs.LineCases.{line_cases}
use Rattle.radio.specs.Answer.{form_answer}
use Rattle.radio.specs.Forms.{sum_width, as_plain}
use Rattle.radio.proofs.Forms.{known_plain}
use Rattle.radio.proofs.Cases.{form_cases}
use Rattle.service.specs.Answer.{min_buffer, answer}
use Rattle.service.proofs.AnswerCases.{fixed_fit, answer_cases}
use Rattle.service.proofs.Calls.{answered_line}

-- the kind of a line
pub kind_known : (k : Kind) (l : List ℕ) → kind_of l ≡ kind_number k → new_kind (kind_of l) ≡ Ok k
kind_known k l known = ap new_kind known ∙ number_kind k

-- ---- a line

-- one that makes a request
pub record Asking (l : List ℕ) (b : List ℤ) (room : ℕ) : Type 0 where
  pub request : Request
  pub asks : Asks l b request room

-- an accepted line does
pub line_asking : (l : List ℕ) (b : List ℤ) (room : ℕ) → longest_fixed ≤ room → well_formed b ≡ true → accepted (line_answer l b room).reply ≡ true → Asking l b room
line_asking l b room h right =
    line_cases l b room h right (λ a. accepted a.reply ≡ true → Asking l b room)
    (λ r e y. absurd (not_both y (refusal_refused r)))
    (λ q a f y. record { request = q; asks = a })
    (λ q a f y. absurd (not_both y empty_refused))

-- of a line of kind k it is the one of that kind
pub asking_kind : (k : Kind) {l : List ℕ} {b : List ℤ} {room : ℕ} (w : Asking l b room) → new_kind (kind_of l) ≡ Ok k → Asks l b (kind_request k l b) room
asking_kind k {l} {b} {room} w known =
    let own = line_known l b w.request w.asks.asked in
    let same : request_kind w.request ≡ k = cc in
    subst (λ (r : Request). Asks l b r room) ((line_makes l b w.request w.asks.asked).1.0 ∙ ap (λ (j : Kind). kind_request j l b) same) w.asks

-- ---- a call

module _ (l : List ℕ) (b : List ℤ) (buffer : List ℕ) where
  -- the call of a line that makes a request is answered by that line
  pub asks_answered : min_buffer ≤ length buffer → {q : Request} → Asks l b q (length buffer) → answer l b buffer ≡ line_answer l b (length buffer)
  asks_answered h {q} a = answered_line l b buffer h (known_plain (request_kind q) l (line_known l b q a.asked)) a.right

  -- an accepted call has room and a well-formed block
  pub accepted_call : accepted (answer l b buffer).reply ≡ true → (min_buffer ≤ length buffer) × (well_formed b ≡ true)
  accepted_call =
      answer_cases l b buffer (λ a. accepted a.reply ≡ true → (min_buffer ≤ length buffer) × (well_formed b ≡ true))
      (λ h y. absurd (not_both y empty_refused)) (λ e y. absurd (not_both y (refusal_refused Malformed))) (λ h e y. (h, e))

  -- and of a line of kind k it asks what lines of its kind ask
  pub accepted_asks : (k : Kind) → new_kind (kind_of l) ≡ Ok k → accepted (answer l b buffer).reply ≡ true → Asks l b (kind_request k l b) (length buffer)
  accepted_asks k known y =
      let c = accepted_call y in
      asking_kind k (line_asking l b (length buffer) (omega (arith, c.0)) c.1 (rw (answered_line l b buffer c.0 (known_plain k l known) c.1) at y)) known

  -- the block that a call leaves
  pub block_cases : (P : List ℤ → Type 0) → P b → ((room : ℕ) → longest_fixed ≤ room → well_formed b ≡ true → P (line_answer (as_plain l) b room).block) → P (answer l b buffer).block
  block_cases P same line =
      answer_cases l b buffer (λ a. P a.block) (λ h. same) (λ e. same)
      (λ h right. form_cases l b (length buffer) (λ a. P a.block)
      (λ e. rw e at (line (length buffer) (omega (arith, h)) right))
      (λ e s. rw e at (line (length buffer - 2 * sum_width) (omega (arith, fixed_fit buffer h)) right))
      (λ e s. same))

-- calls whose lines are answered alike
pub calls_alike : (l k : List ℕ) (b : List ℤ) (buffer : List ℕ) → form_answer l b (length buffer) ≡ form_answer k b (length buffer) → answer l b buffer ≡ answer k b buffer
unfolding answer
calls_alike l k b buffer e = rw e
