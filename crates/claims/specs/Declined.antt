-- Document 01, 'What is declined': what a call leaves that is not accepted, on every block, also on one that no line has made. Nothing else stands in this file; proofs/Declined.antt proves the statement.
use Rattle.std.specs.Prelude.{◌≡◌, true, false, ◌⊎◌, List, [], ℕ, ℤ}
use Rattle.refusals.specs.declared.Refusal.{Refusal}
use Rattle.replies.specs.Replies.{refusal_reply}
use Rattle.replies.specs.Shown.{accepted}
use Rattle.requests.specs.Answer.{Answer}
use Rattle.radio.specs.Forms.{is_radio, radio_reply}
use Rattle.service.specs.Answer.{answer}

-- 'A declined line answers FF and the number as one byte'; document 02, change 14: to a second form FF, the number and the sum, but for 16
pub record RefusesCall (l reply : List ℕ) : Type 0 where
  pub refusal : Refusal
  pub is : (reply ≡ refusal_reply refusal) ⊎ ((is_radio l ≡ true) × (reply ≡ radio_reply (refusal_reply refusal)))

-- 'and leaves the block and the rest of the buffer. 17 hands back an empty part and writes nothing'
pub record DeclinesCall (l : List ℕ) (b : List ℤ) (a : Answer) : Type 0 where
  pub block : a.block ≡ b
  pub reply : (a.reply ≡ []) ⊎ RefusesCall l a.reply

-- 'A line is accepted if its reply isn't empty and doesn't begin with FF. Otherwise it is refused', and then it is declined (`declined_12` in proofs/Uses.antt)
abbrev pub RefusedDeclines : Type 0
RefusedDeclines = (l : List ℕ) (b : List ℤ) (buffer : List ℕ) → accepted (answer l b buffer).reply ≡ false → DeclinesCall l b (answer l b buffer)
