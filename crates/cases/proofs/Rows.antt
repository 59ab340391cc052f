-- Why computing is enough: a table is right where its rows compute to what they say; and right rows that are one list of calls have the lines and replies of these calls.
use mathlib.Core.Path.{◌≡◌, refl, ap, ◌∙◌}
use mathlib.Core.List.{List, [], ◌∷◌}
use Prim.Native.Nat.{ℕ}
use lib.IntN.{ℤ}
use lib.ListN.{get_or, drop}
use Rattle.service.specs.Answer.{answer}
use Rattle.service.specs.Calls.{exchanges}
use Rattle.claims.specs.Ledger.{plain_exchanges}
use Rattle.cases.specs.Calls.{Block, Row, Left, left_by, left, Right, said}
use Rattle.cases.specs.Computed.{answer_on, computed}
use Rattle.cases.specs.Sessions.{gets, handed, Session, calls, told}

-- ---- of each row's block it is known whether it is well formed, so that only the rest of the answer is left to compute

answer_on_lem : (l : List ℕ) (b : Block) (buffer : List ℕ) → answer l b.numbers buffer ≡ answer_on l b buffer
unfolding answer answer_on
answer_on_lem l b buffer = rw b.shown

left-computed : (rs : List Row) → left rs ≡ computed rs
unfolding left computed
left-computed [] = refl
left-computed (r ∷ rs) = rw (answer_on_lem r.line r.on _, left-computed rs)

pub right_by : (rs : List Row) → computed rs ≡ said rs → Right rs
right_by rs e = left-computed rs ∙ e

-- ---- the ledger of a session's calls is the one that its rows tell

pub session_told : (b : List ℤ) (rs : List Row) → Session b rs → Right rs → plain_exchanges b (calls rs) ≡ told rs
unfolding gets handed calls told exchanges left left_by said
session_told b [] s e = refl
session_told b (r ∷ rs) s e =
    let on = ap (λ (l : List (List ℤ)). get_or l 0 []) s in
    let row = ap (λ (l : List Left). get_or l 0 (record { block = []; reply = []; buffer = [] })) e in
    let reply = ap (λ (x : Left). x.reply) row in
    let block = ap (λ (x : Left). x.block) row in
    rw (on, reply, block, session_told r.leaves.numbers rs (ap (drop 1) s) (ap (drop 1) e))
