-- What a declined call leaves (specs/Declined.antt): the block as it was, and no reply but its two bytes, with the sum behind them for a second form, and none for 17. Of plain lines `requests` says so.
use mathlib.Core.Path.{◌≡◌, refl, sym, ap, ◌∙◌}
use mathlib.Core.Bool.{true, false}
use mathlib.Core.List.{List, []}
use mathlib.Core.Logic.{◌⊎◌, inl, inr}
use Prim.Native.Nat.{ℕ, ◌*◌, ◌-◌, ◌≤◌}
use native.Mathlib.Omega.{arith}
use lib.IntN.{ℤ}
use lib.ListN.{length}
use Rattle.refusals.specs.declared.Refusal.TheVariants.{Malformed, WrongSum}
use Rattle.replies.specs.Replies.{longest_fixed}
use Rattle.replies.specs.Shown.{accepted}
use Rattle.requests.specs.Answer.{Answer}
use Rattle.requests.specs.Declined.{Refuses, Declines}
use Rattle.requests.proofs.Begins.{line_begins}
use Rattle.requests.proofs.Declined.{declined_line_leaves}
use Rattle.radio.specs.Answer.{by_radio}
use Rattle.radio.specs.Forms.{sum_width, is_radio, plain_line, radio_reply}
use Rattle.radio.proofs.Cases.{form_cases}
use Rattle.radio.proofs.Replies.{empty_reply, reply_accepted}
use Rattle.service.proofs.AnswerCases.{fixed_fit, answer_cases}
use Rattle.claims.specs.Declined.{RefusesCall, DeclinesCall, RefusedDeclines}

module _ (l : List ℕ) {b : List ℤ} where
  -- what a plain line declines
  by_line : {a : Answer} → Declines b a → DeclinesCall l b a
  by_line {a} d = record { block = d.block; reply = go d.reply }
    where
      go : (a.reply ≡ []) ⊎ Refuses a.reply → (a.reply ≡ []) ⊎ RefusesCall l a.reply
      go (inl e) = inl e
      go (inr r) = inr (record { refusal = r.refusal; is = inl r.is })

  -- is declined by radio, with its sum
  by_sum : is_radio l ≡ true → {a : Answer} → Declines b a → DeclinesCall l b (by_radio a)
  by_sum e {a} d = record { block = d.block; reply = go d.reply }
    where
      go : (a.reply ≡ []) ⊎ Refuses a.reply → (radio_reply a.reply ≡ []) ⊎ RefusesCall l (radio_reply a.reply)
      go (inl f) = inl (ap radio_reply f ∙ empty_reply)
      go (inr r) = inr (record { refusal = r.refusal; is = inr (e, ap radio_reply r.is) })

-- what is not accepted leaves the block as it was, and writes nothing but its two bytes
pub declined_leaves : RefusedDeclines
declined_leaves l b buffer =
    answer_cases l b buffer (λ a. accepted a.reply ≡ false → DeclinesCall l b a)
    (λ h n. record { block = refl; reply = inl refl })
    (λ e n. record { block = refl; reply = inr (record { refusal = Malformed; is = inl refl }) })
    (λ h right. form_cases l b (length buffer) (λ a. accepted a.reply ≡ false → DeclinesCall l b a)
    (λ e n. by_line l (declined_line_leaves l b (length buffer) (omega (arith, h)) right n))
    (λ e s n.
    let room = length buffer - 2 * sum_width in
    let fits : longest_fixed ≤ room = omega (arith, fixed_fit buffer h) in
    by_sum l e (declined_line_leaves (plain_line l) b room fits right (sym (reply_accepted (line_begins (plain_line l) b room fits right)) ∙ n)))
    (λ e s n. record { block = refl; reply = inr (record { refusal = WrongSum; is = inr (e, refl) }) }))
