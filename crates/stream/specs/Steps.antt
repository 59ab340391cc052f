-- What a step leaves, what many steps leave, and what comes next, by their definitions.
use Rattle.std.specs.Prelude.{◌≡◌, List, ℕ, ℤ}
use Rattle.requests.specs.Answer.{answered}
use Rattle.requests.specs.Wrote.{Answers}
use Rattle.stream.specs.Parts.{Taken, next_line, Shown, start, over_parts, last_answer}
use Rattle.stream.specs.declared.splitting.Step.{Step}

-- how much it took, what is kept of the line, and what is to be printed in front of the reply buffer, with the block
pub record Steps (t : Taken) (buffer line : List ℕ) (block : List ℤ) (reply : List ℕ) (r : Step) : Type 0 where
  pub used : r.used ≡ t.used
  pub kept : line ≡ t.line
  pub printed : Answers t.answer buffer block reply r.written

-- what many steps leave, but for what they printed: what is kept of the line, and the block
pub record Leaves (s : Shown) (line : List ℕ) (block : List ℤ) : Type 0 where
  pub kept : line ≡ s.line
  pub left : block ≡ s.block

-- where a program stands that reads an input: the kept line and the block are what the steps over some parts leave, from the start
pub record AfterParts (line : List ℕ) (block : List ℤ) : Type 0 where
  pub parts : List (List ℕ)
  pub leaves : Leaves (over_parts start parts) line block

-- what is to be printed next, with the block that it leaves: what a step on this part prints, after some parts
pub record StepPrints (part : List ℕ) (block : List ℤ) (reply : List ℕ) : Type 0 where
  pub parts : List (List ℕ)
  pub next :
      let s = over_parts start parts in
      answered block reply ≡ (next_line s.line s.block part).answer

-- likewise at the end of the input, where this is kept of the last line
pub record EndPrints (line : List ℕ) (block : List ℤ) (reply : List ℕ) : Type 0 where
  pub parts : List (List ℕ)
  pub kept : (over_parts start parts).line ≡ line
  pub next : answered block reply ≡ last_answer line (over_parts start parts).block
