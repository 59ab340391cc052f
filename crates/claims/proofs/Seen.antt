-- Demand 3 of what callers see: the contract's answers are the definition's, call by call.
use mathlib.Core.Path.{◌≡◌, refl}
use mathlib.Core.List.{List, [], ◌∷◌}
use lib.IntN.{ℤ}
use Rattle.tables.specs.WellFormed.{fresh_block}
use Rattle.replies.proofs.Writing.{wrote_taken}
use Rattle.requests.specs.Wrote.{Answers}
use Rattle.service.specs.Answer.{answer}
use Rattle.service.specs.Calls.{Call, last_block, blocks, exchanges}
use Rattle.claims.specs.Seen.{Seen, Chained, seen_blocks, seen_exchanges, seen_last, SeenDemand}
use Rattle.claims.proofs.Demand.{demand}

calls_of : List Seen → List Call
calls_of [] = []
calls_of (s ∷ ss) = record { line = s.line; buffer = s.buffer } ∷ calls_of ss

seen_blocks_lem : (b : List ℤ) (ss : List Seen) → Chained b ss → seen_blocks ss ≡ blocks b (calls_of ss)
unfolding calls_of Chained seen_blocks blocks
seen_blocks_lem b [] c = refl
seen_blocks_lem b (s ∷ ss) c = rw (← c.0, seen_blocks_lem s.block_after ss c.2, c.1.block)

seen_exchanges_lem : (b : List ℤ) (ss : List Seen) → Chained b ss → seen_exchanges ss ≡ exchanges b (calls_of ss)
unfolding calls_of Chained seen_exchanges exchanges
seen_exchanges_lem b [] c = refl
seen_exchanges_lem b (s ∷ ss) c =
    rw (← c.0, wrote_taken c.1.reply, seen_exchanges_lem s.block_after ss c.2, c.1.block)

seen_last_lem : (b : List ℤ) (ss : List Seen) → Chained b ss → seen_last b ss ≡ last_block b (calls_of ss)
unfolding calls_of Chained seen_last last_block
seen_last_lem b [] c = refl
seen_last_lem b (s ∷ ss) c = rw (← c.0, seen_last_lem s.block_after ss c.2, c.1.block)

-- a call that meets the contract, before such a list: nothing else is asked of it
pub chained_more : (s : Seen) (ss : List Seen) → Answers (answer s.line s.block s.buffer) s.buffer s.block_after s.buffer_after s.count → Chained s.block_after ss
    → Chained s.block (s ∷ ss)
unfolding Chained
chained_more s ss a c = (refl, a, c)

-- demand 3 of every such list from a fresh block
pub seen_demand : (ss : List Seen) → Chained fresh_block ss → SeenDemand ss
seen_demand ss c = rw (seen_blocks_lem fresh_block ss c, seen_exchanges_lem fresh_block ss c, seen_last_lem fresh_block ss c) (demand (calls_of ss))
