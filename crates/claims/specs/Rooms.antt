-- Document 02, change 12: two lists of lines that end in certificates that say reached. Nothing else stands in this file; proofs/Rooms.antt proves it. What follows from each part
-- stands in proofs/UsesRooms.antt; the name of the law there is in brackets.
use Rattle.std.specs.Prelude.{◌≡◌, Bool, true, ◌&&◌, List, [], ◌∷◌, ℕ, ◌*◌, ◌<◌, eqb, ℤ}
use Rattle.tables.specs.Block.{loaded_choice_place, loaded_entry_place, at, trains, scale, pairs, constant, size, first, second}
use Rattle.tables.specs.WellFormed.{fresh_block}
use Rattle.tables.specs.Plans.{Open, shape_of}
use Rattle.lines.specs.declared.kind.Kind.TheVariants.{Certify}
use Rattle.lines.specs.Kinds.{kind_number}
use Rattle.lines.specs.Layout.{kind_of}
use Rattle.replies.specs.Shown.{accepted, flag_shown, weighted_shown, full_weight_shown}
use Rattle.service.specs.Calls.{Call, Exchange, exchange, last_block}
use Rattle.claims.specs.Ledger.{plain_exchanges}

-- 'leave equal n, sizes, pairs, H and s', at the places that are used; −1 is a number like any other
pub record EqualStudies (b c : List ℤ) : Type 0 where
  pub trains_same : trains b ≡ trains c
  pub scale_same : scale b ≡ scale c
  pub sizes_same : (i : ℕ) → i < trains b → size b i ≡ size c i
  pub pairs_same : pairs b ≡ pairs c
  pub firsts_same : (k : ℕ) → k < pairs b → first b k ≡ first c k
  pub seconds_same : (k : ℕ) → k < pairs b → second b k ≡ second c k
  pub choices_same : (i a : ℕ) → i < trains b → a < size b i → at b (loaded_choice_place i a) ≡ at c (loaded_choice_place i a)
  pub entries_same : (k a d : ℕ) → k < pairs b → a < size b (first b k) → d < size b (second b k) → at b (loaded_entry_place k a d) ≡ at c (loaded_entry_place k a d)

-- a line with its reply is 'a certificate that says reached': accepted, by the line's kind a certificate, 85 and 01
abbrev pub says_reached : Exchange → Bool
says_reached e = accepted e.reply && (eqb (kind_of e.line) (kind_number Certify) && eqb (flag_shown e.reply) 1)

-- the last line of a list, with its reply; where there is none, an empty line with an empty reply
unfoldable pub last_exchange : List Exchange → Exchange
last_exchange [] = exchange [] []
last_exchange (e ∷ []) = e
last_exchange (e ∷ d ∷ es) = last_exchange (d ∷ es)

-- of a list of calls from the fresh block: its last line with its reply, either 'with the two additions removed', and the block that it leaves
abbrev pub last_of : List Call → Exchange
last_of calls = last_exchange (plain_exchanges fresh_block calls)

abbrev pub block_after : List Call → List ℤ
block_after calls = last_block fresh_block calls

-- 'two lists of lines from fresh that leave equal n, sizes, pairs, H and s .., and whose last line is a certificate that says reached', whatever else stands in them
pub record BothReached (calls more : List Call) : Type 0 where
  pub one : says_reached (last_of calls) ≡ true
  pub other : says_reached (last_of more) ≡ true
  pub equal : EqualStudies (block_after calls) (block_after more)

-- what such lists have in common, whatever is forbidden
pub record Rooms (calls more : List Call) : Type 0 where
  -- 'the constants must be equal' (`equal_constants`)
  pub constants : constant (block_after calls) ≡ constant (block_after more)
  -- and so are the ceilings, E/W, that the two replies show (`equal_ceilings`)
  pub ceilings : weighted_shown (last_of calls).reply * full_weight_shown (last_of more).reply ≡ weighted_shown (last_of more).reply * full_weight_shown (last_of calls).reply

abbrev pub RoomsAgree : Type 0
RoomsAgree = (calls more : List Call) → BothReached calls more → Rooms calls more

-- the document's own sentence: 'with no forbidden entry'
abbrev pub OpenRoomsAgree : Type 0
OpenRoomsAgree = (calls more : List Call) → BothReached calls more → Open (shape_of (block_after calls)) → constant (block_after calls) ≡ constant (block_after more)
