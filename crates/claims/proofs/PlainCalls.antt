-- What a call on a well-formed block comes to with the two additions of a second form removed: no reply, 17; a declined line, 25; or what its plain line is answered, where there is room for every
-- fixed reply. A reply without its additions is the one that got them, since every reply is empty or whole bytes that begin as replies do (`line_begins` in requests, `reply_back` in radio). Nothing of
-- a kind is looked at, so what is shown of every plain line holds of every line in either form.
use mathlib.Core.Path.{◌≡◌, refl}
use mathlib.Core.Bool.{Bool, true, false}
use mathlib.Core.List.{List, []}
use Prim.Native.Nat.{ℕ, ◌*◌, ◌-◌, ◌≤◌}
use native.Mathlib.Omega.{arith}
use lib.IntN.{ℤ}
use lib.ListN.{length}
use Rattle.theory.proofs.Range.{not_both}
use Rattle.refusals.specs.declared.Refusal.TheVariants.{WrongSum}
use Rattle.tables.specs.WellFormed.{well_formed}
use Rattle.replies.specs.Replies.{longest_fixed}
use Rattle.replies.proofs.Begins.{IsReply, declined_begins}
use Rattle.requests.specs.Answer.{Answer, answered, declined, line_answer}
use Rattle.requests.proofs.Begins.{line_begins}
use Rattle.radio.specs.Answer.{by_radio}
use Rattle.radio.specs.Forms.{sum_width, is_radio, plain_line, as_plain, plain_reply}
use Rattle.radio.proofs.Cases.{form_cases}
use Rattle.radio.proofs.Replies.{reply_back}
use Rattle.service.specs.Answer.{answer}
use Rattle.service.specs.Calls.{Exchange, exchange}
use Rattle.service.proofs.AnswerCases.{fixed_fit, answer_cases}
use Rattle.claims.specs.Ledger.{plain_exchange}

module _ (l : List ℕ) (b : List ℤ) (d : List ℕ) where
  -- a call's line with its reply, 'with the two additions removed'
  abbrev pub plain_call : Exchange
  plain_call = plain_exchange (exchange l (answer l b d).reply)

  -- and its answer so
  abbrev pub plain_outcome : Answer
  plain_outcome = answered (answer l b d).block plain_call.reply

module _ (l : List ℕ) (b : List ℤ) (d : List ℕ) (right : well_formed b ≡ true) (P : List ℕ → Answer → Type 0) where
  -- what is to be shown of an answer to the line
  abbrev Plainly : Answer → Type 0
  Plainly a = let e = plain_exchange (exchange l a.reply) in P e.line (answered a.block e.reply)

  -- an empty reply has no additions
  no_reply : P (as_plain l) (answered b []) → Plainly (answered b [])
  unfolding plain_reply
  no_reply p = go (is_radio l) refl
    where
      go : (t : Bool) → is_radio l ≡ t → Plainly (answered b [])
      go true e = rw e (rw e at p)
      go false e = rw e (rw e at p)

  -- the reply to a plain line has none either
  plain_given : is_radio l ≡ false → (a : Answer) → P l a → Plainly a
  plain_given e a p = rw e p

  -- and one that got them is again what it was
  radio_given : is_radio l ≡ true → (a : Answer) → IsReply a.reply → P (plain_line l) a → Plainly (by_radio a)
  radio_given e a is p = rw (e, reply_back is) p

  pub plain_cases : P (as_plain l) (answered b []) → P (as_plain l) (declined b WrongSum) → ((room : ℕ) → longest_fixed ≤ room → P (as_plain l) (line_answer (as_plain l) b room))
      → P (plain_call l b d).line (plain_outcome l b d)
  plain_cases empty wrong line =
      answer_cases l b d Plainly
      (λ h. no_reply empty)
      (λ e. absurd (not_both right e))
      (λ h _. form_cases l b (length d) Plainly
      (λ e. plain_given e (line_answer l b (length d)) (rw e at (line (length d) (omega (arith, fixed_fit d h)))))
      (λ e s.
      let room = length d - 2 * sum_width in
      let fits : longest_fixed ≤ room = omega (arith, fixed_fit d h) in
      radio_given e (line_answer (plain_line l) b room) (line_begins (plain_line l) b room fits right) (rw e at (line room fits)))
      (λ e s. radio_given e (declined b WrongSum) (declined_begins WrongSum) (rw e at wrong)))
