-- A list with one call more: the last call has the block that the others leave, and its answer comes behind theirs.
use mathlib.Core.Path.{◌≡◌, refl, ap}
use mathlib.Core.List.{List, [], ◌∷◌, ◌++◌}
use lib.IntN.{ℤ}
use Rattle.requests.specs.Answer.{Answer}
use Rattle.service.specs.Answer.{answer}
use Rattle.service.specs.Calls.{Call, Exchange, exchange, last_block, blocks, exchanges}

-- the answer to a call that follows a list
abbrev pub next_answer : List ℤ → List Call → Call → Answer
next_answer b cs c = answer c.line (last_block b cs) c.buffer

pub last_more : (b : List ℤ) (cs : List Call) (c : Call) → last_block b (cs ++ c ∷ []) ≡ (next_answer b cs c).block
unfolding last_block
last_more b [] c = refl
last_more b (d ∷ cs) c = last_more (answer d.line b d.buffer).block cs c

pub blocks_more : (b : List ℤ) (cs : List Call) (c : Call) → blocks b (cs ++ c ∷ []) ≡ blocks b cs ++ last_block b cs ∷ []
unfolding last_block blocks
blocks_more b [] c = refl
blocks_more b (d ∷ cs) c = ap (λ (bs : List (List ℤ)). b ∷ bs) (blocks_more (answer d.line b d.buffer).block cs c)

pub exchanges_more : (b : List ℤ) (cs : List Call) (c : Call)
    → exchanges b (cs ++ c ∷ []) ≡ exchanges b cs ++ exchange c.line (next_answer b cs c).reply ∷ []
unfolding last_block exchanges
exchanges_more b [] c = refl
exchanges_more b (d ∷ cs) c =
    let a = answer d.line b d.buffer in
    ap (λ (es : List Exchange). exchange d.line a.reply ∷ es) (exchanges_more a.block cs c)
