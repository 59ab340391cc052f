-- Document 01, 'What is declined': what a declined line or call leaves.
use Rattle.refusals.specs.declared.Refusal.{Refusal}
use Rattle.std.specs.Prelude.{◌≡◌, ◌⊎◌, List, [], ℕ, ℤ}
use Rattle.replies.specs.Replies.{refusal_reply}
use Rattle.requests.specs.Answer.{Answer}

-- 'A declined line answers FF and the number as one byte'
pub record Refuses (reply : List ℕ) : Type 0 where
  pub refusal : Refusal
  pub is : reply ≡ refusal_reply refusal

-- 'and leaves the block and the rest of the buffer. 17 hands back an empty part and writes nothing': the answer a to a call that had the block b
pub record Declines (b : List ℤ) (a : Answer) : Type 0 where
  pub block : a.block ≡ b
  pub reply : (a.reply ≡ []) ⊎ Refuses a.reply
