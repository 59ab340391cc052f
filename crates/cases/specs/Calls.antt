-- Tables of calls: what a row says, and what is said of all rows of a table.
use Rattle.std.specs.Prelude.{◌≡◌, Bool, true, List, [], ◌∷◌, ◌++◌, ℕ, ◌-◌, ℤ, length}
use Prim.Native.String.{String}
use Rattle.tables.specs.WellFormed.{well_formed}
use Rattle.frames.specs.Text.{zeros}
use Rattle.replies.specs.Wrote.{written}
use Rattle.requests.specs.Answer.{Answer}
use Rattle.service.specs.Answer.{min_buffer, answer}
use Rattle.cases.specs.Written.{text, marks, Written, laid_in, laid}

-- ---- rows

-- a block, and whether it is well formed: that is computed once, for all rows that have the block
pub record Block : Type 0 where
  pub numbers : List ℤ
  pub formed : Bool
  pub shown : well_formed numbers ≡ formed

-- the block of a study
unfoldable pub held : (w : Written) → well_formed (laid w) ≡ true → Block
held w e = record { numbers = laid w; formed = true; shown = e }

-- of a study whose trains stand in this order
unfoldable pub held_in : (order : List ℕ) (w : Written) → well_formed (laid_in order w) ≡ true → Block
held_in order w e = record { numbers = laid_in order w; formed = true; shown = e }

-- a call: how many characters its buffer has, its block and its line; and what is said of it: its reply, and the block that it leaves
pub record Row : Type 0 where
  pub room : ℕ
  pub on : Block
  pub line : List ℕ
  pub reply : List ℕ
  pub leaves : Block

unfoldable pub call : ℕ → Block → List ℕ → String → Block → Row
call room b l r after = record { room = room; on = b; line = l; reply = text r; leaves = after }

-- on this block, the line has this reply and leaves that block
unfoldable pub row : Block → String → String → Block → Row
row b l r after = call min_buffer b (text l) r after

-- 'A declined line answers FF and the number as one byte, and leaves the block'
unfoldable pub declined : Block → String → String → Row
declined b l r = row b l r b

-- the same of a line that so many zeros end
unfoldable pub declined_long : Block → String → ℕ → String → Row
declined_long b l n r = call min_buffer b (text l ++ zeros n) r b

-- '17 hands back an empty part and writes nothing': with a buffer of so many characters
unfoldable pub silent : ℕ → Block → String → Row
silent room b l = call room b (text l) "" b

-- ---- what is said of a table

-- what a call leaves: the whole block, and the whole buffer, whose front is the reply
pub record Left : Type 0 where
  pub block : List ℤ
  pub reply : List ℕ
  pub buffer : List ℕ

unfoldable pub left_by : Answer → ℕ → Left
left_by a room = record { block = a.block; reply = a.reply; buffer = written a.reply (marks room) }

-- as the rows say it: what lies behind the reply stays
unfoldable pub said : List Row → List Left
said [] = []
said (r ∷ rs) = record { block = r.leaves.numbers; reply = r.reply; buffer = r.reply ++ marks (r.room - length r.reply) } ∷ said rs

-- as the answer to each call is defined
unfoldable pub left : List Row → List Left
left [] = []
left (r ∷ rs) = left_by (answer r.line r.on.numbers (marks r.room)) r.room ∷ left rs

-- every row is right
abbrev pub Right : List Row → Type 0
Right rs = left rs ≡ said rs
