-- Document 02, change 13: how many choices a search tries, and that the search of the dearest study of given sizes tries them all. Nothing else stands in this file; proofs/Dearest.antt proves the statements.
-- What follows from each part stands in proofs/UsesDearest.antt; the name of the law there is in brackets.
use Rattle.std.specs.Prelude.{◌≡◌, true, List, ℕ, ◌<◌, ◌≤◌, ℤ, length}
use Rattle.theory.specs.Tries.{tries_of}
use Rattle.tables.specs.Block.{trains, size, order}
use Rattle.tables.specs.WellFormed.{well_formed}
use Rattle.dearest.specs.Dearest.{dearest_tries}
use Rattle.lines.specs.declared.kind.Kind.TheVariants.{Load, Search, Dearest}
use Rattle.lines.specs.Kinds.{kind_number}
use Rattle.lines.specs.Layout.{kind_of, search_budget}
use Rattle.replies.specs.Shown.{accepted, ending_shown, says_ended, count_shown}
use Rattle.service.specs.Answer.{min_buffer, answer}
use Rattle.service.specs.Calls.{Call}
use Rattle.claims.specs.Claims.{sizes_of}
use Rattle.claims.specs.Rooms.{last_of, block_after}

-- ---- 'as many choices as any study of those sizes, searched in loaded order, can cause. That number is the sum of the products of the first 1, 2, up to n sizes'

-- a list of calls from fresh that ends in an accepted search, on a block whose trains stand in loaded order
pub record EndsInSearch (calls : List Call) : Type 0 where
  pub kind : kind_of (last_of calls).line ≡ kind_number Search
  pub fine : accepted (last_of calls).reply ≡ true
  pub loaded : (d : ℕ) → d < trains (block_after calls) → order (block_after calls) d ≡ d

-- its reply counts no more tries than the sizes of the block give (`fewer_tries`)
abbrev pub TriesAtMost : Type 0
TriesAtMost = (calls : List Call) → EndsInSearch calls → count_shown (last_of calls).reply ≤ tries_of (trains (block_after calls)) (size (block_after calls))

-- ---- 'It answers with a load line whose search straight after loading, with enough budget, tries as many'

-- a search line with its reply, where there are so many tries: with a budget of as many or more it has ended and shows them all (`all_tried`, `unspent`), and with less it is spent, 00, and shows its budget (`one_less`, `other_budget`)
pub record AllTried (tries : ℕ) (line reply : List ℕ) : Type 0 where
  pub enough : tries ≤ search_budget line → (says_ended reply ≡ true) × (count_shown reply ≡ tries)
  pub less : search_budget line < tries → (ending_shown reply ≡ 0) × (count_shown reply ≡ search_budget line)

-- a line that loads, on every well-formed block, a study of which every accepted search tries so many choices: the first buffer is the load's, the second the search's
pub record LoadsDearest (tries : ℕ) (line : List ℕ) : Type 0 where
  -- (`dearest_as_clauses`)
  pub load : kind_of line ≡ kind_number Load
  -- (`dearest_taken`)
  pub taken : (b : List ℤ) (buffer : List ℕ) → well_formed b ≡ true → min_buffer ≤ length buffer → accepted (answer line b buffer).reply ≡ true
  pub tried : (b : List ℤ) (buffer : List ℕ) → well_formed b ≡ true → min_buffer ≤ length buffer
      → (l other : List ℕ) → kind_of l ≡ kind_number Search → accepted (answer l (answer line b buffer).block other).reply ≡ true
      → AllTried tries l (answer l (answer line b buffer).block other).reply

-- the reply to every accepted line of kind 0F, on every block and in every buffer, is such a line: the tries are those of its own sizes
abbrev pub DearestReached : Type 0
DearestReached =
    (l : List ℕ) (b : List ℤ) (buffer : List ℕ) → kind_of l ≡ kind_number Dearest → accepted (answer l b buffer).reply ≡ true
    → LoadsDearest (dearest_tries (sizes_of l)) (answer l b buffer).reply
