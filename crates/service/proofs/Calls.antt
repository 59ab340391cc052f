-- What a call answers, in the order of the tests: the buffer, the block, the line in either form. No reply is longer than the longest one, and none but a saved line, a plan record or the line of a dearest study is longer than the smallest buffer.
use mathlib.Core.Path.{◌≡◌, refl, ◌∙◌}
use mathlib.Core.Bool.{true, false}
use mathlib.Core.List.{List}
use Prim.Native.Nat.{ℕ, ◌<◌, ◌≤◌}
use native.Mathlib.Omega.{arith}
use lib.IntN.{ℤ}
use lib.ListN.{length}
use borrow.Author.Tests.{lt-ltb, le-ltb}
use Rattle.refusals.specs.declared.Refusal.TheVariants.{Malformed}
use Rattle.tables.specs.WellFormed.{well_formed}
use Rattle.replies.specs.Replies.{refusal_reply}
use Rattle.replies.specs.Wrote.{Wrote}
use Rattle.replies.proofs.Writing.{wrote_none}
use Rattle.replies.proofs.Lengths.{refusal_length}
use Rattle.requests.specs.Answer.{line_answer}
use Rattle.requests.specs.Wrote.{Answers}
use Rattle.requests.proofs.LineCases.{FixedLine}
use Rattle.radio.specs.Forms.{is_radio, as_plain}
use Rattle.radio.specs.Answer.{longest_form, form_answer}
use Rattle.radio.proofs.Cases.{form_plain, form_short, form_short_fixed, form_given}
use Rattle.service.specs.Answer.{min_buffer, answer}
use Rattle.service.proofs.AnswerCases.{fixed_fit, answer_cases}

module _ (l : List ℕ) (b : List ℤ) (d : List ℕ) where
  -- 17
  pub small_buffer : length d < min_buffer → Answers (answer l b d) d b d 0
  unfolding answer
  small_buffer h = rw (lt-ltb (length d) min_buffer h) (record { block = refl; reply = wrote_none })

  module _ (h : min_buffer ≤ length d) where
    -- 16
    pub malformed_block : {after : List ℕ} {n : ℕ} → well_formed b ≡ false → Wrote d (refusal_reply Malformed) after n → Answers (answer l b d) d b after n
    unfolding answer
    malformed_block e w = rw (le-ltb (length d) min_buffer h, e) (record { block = refl; reply = w })

    -- the line, in either form
    pub answered_form : well_formed b ≡ true → answer l b d ≡ form_answer l b (length d)
    unfolding answer
    answered_form e = rw (le-ltb (length d) min_buffer h, e)

    -- and in its plain one
    pub answered_line : is_radio l ≡ false → well_formed b ≡ true → answer l b d ≡ line_answer l b (length d)
    answered_line plain e = answered_form e ∙ form_plain l b (length d) plain

  -- every reply fits a buffer for the longest one
  pub reply_short : length (answer l b d).reply ≤ longest_form
  reply_short =
      answer_cases l b d (λ a. length a.reply ≤ longest_form) (λ h. omega arith) (λ e. omega (arith, refusal_length Malformed)) (λ h e. form_short l b (length d) (fixed_fit d h) e)

  -- in a buffer that holds the longest reply every call has one: 17 is not given there
  pub reply_given : longest_form ≤ length d → 0 < length (answer l b d).reply
  reply_given m =
      answer_cases l b d (λ a. 0 < length a.reply) (λ h. absurd (omega arith)) (λ e. omega (arith, refusal_length Malformed)) (λ h e. form_given l b (length d) (fixed_fit d h) e m)

  -- and every fixed one the smallest buffer
  pub reply_short_fixed : FixedLine (as_plain l) b → length (answer l b d).reply ≤ min_buffer
  reply_short_fixed f =
      answer_cases l b d (λ a. length a.reply ≤ min_buffer) (λ h. omega arith) (λ e. omega (arith, refusal_length Malformed))
      (λ h e. omega (arith, form_short_fixed l b (length d) (fixed_fit d h) e f))
