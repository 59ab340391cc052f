-- Rows as one list of calls, and what the ledger is told of them.
use Rattle.std.specs.Prelude.{◌≡◌, List, [], ◌∷◌, ℤ}
use Rattle.service.specs.Calls.{Call, Exchange, exchange}
use Rattle.claims.specs.Ledger.{plain_exchange}
use Rattle.cases.specs.Written.{marks}
use Rattle.cases.specs.Calls.{Row}

-- the blocks that the rows' calls get, by the rows
unfoldable pub gets : List Row → List (List ℤ)
gets [] = []
gets (r ∷ rs) = r.on.numbers ∷ gets rs

-- in a list of calls 'the block that the call before left', and the first b
unfoldable pub handed : List ℤ → List Row → List (List ℤ)
handed b [] = []
handed b (r ∷ rs) = b ∷ handed r.leaves.numbers rs

-- the rows are such a list
abbrev pub Session : List ℤ → List Row → Type 0
Session b rs = handed b rs ≡ gets rs

-- the calls of the rows
unfoldable pub calls : List Row → List Call
calls [] = []
calls (r ∷ rs) = record { line = r.line; buffer = marks r.room } ∷ calls rs

-- their lines with their replies, 'with the two additions removed': what the ledger is fed
unfoldable pub told : List Row → List Exchange
told [] = []
told (r ∷ rs) = plain_exchange (exchange r.line r.reply) ∷ told rs
