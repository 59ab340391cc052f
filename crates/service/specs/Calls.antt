-- Document 01, 'Lists and the ledger': lists of calls, the blocks that they have and leave, and their lines with their replies.
use Rattle.std.specs.Prelude.{List, [], ◌∷◌, ℕ, ℤ}
use Rattle.service.specs.Answer.{answer}

-- 'Each call has any line, any reply buffer'
pub record Call : Type 0 where
  pub line : List ℕ
  pub buffer : List ℕ

-- a line with its reply
pub record Exchange : Type 0 where
  pub line : List ℕ
  pub reply : List ℕ

abbrev pub exchange : List ℕ → List ℕ → Exchange
exchange l reply = record { line = l; reply = reply }

-- the block after a list of calls that begins with block b: each call has 'the block that the call before left'
unfoldable pub last_block : List ℤ → List Call → List ℤ
last_block b [] = b
last_block b (c ∷ cs) = last_block (answer c.line b c.buffer).block cs

-- the block that each call has, the first of them b
unfoldable pub blocks : List ℤ → List Call → List (List ℤ)
blocks b [] = []
blocks b (c ∷ cs) = b ∷ blocks (answer c.line b c.buffer).block cs

-- the lines with their replies, in order
unfoldable pub exchanges : List ℤ → List Call → List Exchange
exchanges b [] = []
exchanges b (c ∷ cs) =
    let a = answer c.line b c.buffer in
    exchange c.line a.reply ∷ exchanges a.block cs
