-- What callers of the entry see: a list of calls, each of which meets the entry's contract, each on the block that the one before left.
use Rattle.std.specs.Prelude.{◌≡◌, List, [], ◌∷◌, map, ℕ, ℤ, take}
use Rattle.tables.specs.WellFormed.{fresh_block}
use Rattle.requests.specs.Wrote.{Answers}
use Rattle.service.specs.Answer.{answer}
use Rattle.service.specs.Calls.{Exchange, exchange}
use Rattle.claims.specs.Ledger.{plain_exchange}
use Rattle.claims.specs.Claims.{Claimed}

-- one call: what went in, and what came out
pub record Seen : Type 0 where
  pub line : List ℕ
  pub block : List ℤ
  pub buffer : List ℕ
  pub block_after : List ℤ
  pub buffer_after : List ℕ
  pub count : ℕ

-- the contract of `respond` and of `junction_answer` at that call, and each call's block is the one before's; no more is asked (`chained_more` in proofs/Seen.antt)
unfoldable pub Chained : List ℤ → List Seen → Type 0
Chained b [] = Unit {0}
Chained b (s ∷ ss) =
    (s.block ≡ b) × Answers (answer s.line s.block s.buffer) s.buffer s.block_after s.buffer_after s.count × Chained s.block_after ss

-- the block that each call had
unfoldable pub seen_blocks : List Seen → List (List ℤ)
seen_blocks [] = []
seen_blocks (s ∷ ss) = s.block ∷ seen_blocks ss

-- the lines, each with the written front of its buffer
unfoldable pub seen_exchanges : List Seen → List Exchange
seen_exchanges [] = []
seen_exchanges (s ∷ ss) = exchange s.line (take s.count s.buffer_after) ∷ seen_exchanges ss

-- the block that the last call left
unfoldable pub seen_last : List ℤ → List Seen → List ℤ
seen_last b [] = b
seen_last b (s ∷ ss) = seen_last s.block_after ss

-- demand 3 of what a caller saw, from a fresh block: all that `Demand` claims (`seen_bound` in proofs/Uses.antt)
abbrev pub SeenDemand : List Seen → Type 0
SeenDemand seen = Claimed (seen_blocks seen) (map plain_exchange (seen_exchanges seen)) (seen_last fresh_block seen)
