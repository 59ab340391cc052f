-- What every plan costs by the ledger: of J, in the course of the session on unequal sizes, and after rounds of a branch line. The costs are sums of the loaded and added points
-- by hand.
use mathlib.Core.Path.{◌≡◌, refl}
use mathlib.Core.List.{List, [], ◌∷◌}
use Prim.Native.Nat.{ℕ}
use lib.ListN.{take}
use Rattle.tables.specs.WellFormed.{fresh_block}
use Rattle.claims.specs.Ledger.{plain_exchanges}
use Rattle.cases.specs.Calls.{Row, call, row, declined, Right}
use Rattle.cases.specs.Computed.{computed}
use Rattle.cases.specs.Studies.{fresh, j_line, j_with, j}
use Rattle.cases.specs.Sessions.{gets, handed, Session, calls, told}
use Rattle.cases.specs.PlanCosts.{plan_costs}
use Rattle.cases.proofs.Rows.{right_by, session_told}
use Rattle.cases.proofs.Unequal as unequal
use Rattle.cases.proofs.Rounds as rounds

-- J, and an addition that is declined
unfoldable pub j_table : List Row
j_table = row fresh j_line "81 000000000000 000000000000" j ∷ declined j "02 00 00 0F4240" "FF 0A" ∷ []

-- rows of a session, and what all plans cost after them
pub record Costed : Type 0 where
  pub rows : List Row
  pub costs : List ℕ

-- so many rows from the beginning of a session
unfoldable pub after : ℕ → List Row → List ℕ → Costed
after n rs cs = record { rows = take n rs; costs = cs }

unfoldable pub said : List Costed → List (List ℕ)
said [] = []
said (c ∷ cs) = c.costs ∷ said cs

unfoldable pub found : List Costed → List (List ℕ)
found [] = []
found (c ∷ cs) = plan_costs (told c.rows) ∷ found cs

unfoldable pub table : List Costed
table =
    -- J, plans 00, 01, 10, 11: loaded; a declined addition changes nothing
    after 1 j_table (3 ∷ 2 ∷ 3 ∷ 2 ∷ [])
    ∷ after 2 j_table (3 ∷ 2 ∷ 3 ∷ 2 ∷ [])
    -- unequal sizes, plans 000, 010, 020, 100, 110, 120: loaded; 2 points added to train 1, choice 0; shift, tighten, certificates and searches change nothing
    ∷ after 1 unequal.table (7 ∷ 9 ∷ 10 ∷ 5 ∷ 10 ∷ 7 ∷ [])
    ∷ after 2 unequal.table (9 ∷ 9 ∷ 10 ∷ 7 ∷ 10 ∷ 7 ∷ [])
    ∷ after 11 unequal.table (9 ∷ 9 ∷ 10 ∷ 7 ∷ 10 ∷ 7 ∷ [])
    -- 2 points added to train 0, choice 1, then shift and tighten
    ∷ after 14 unequal.table (9 ∷ 9 ∷ 10 ∷ 9 ∷ 12 ∷ 9 ∷ [])
    -- the branch line, plans 00, 01, 10, 11: loaded; tighten, two rounds and a search change nothing
    ∷ after 5 rounds.table (1 ∷ 2 ∷ 1 ∷ 1 ∷ [])
    ∷ []

pub table_right : found table ≡ said table
unfolding computed plan_costs told j_line j_table unequal.table rounds.table after said found table
table_right = refl

-- ---- the rows are those of calls, so the same is right of the calls' own lines and replies, after the whole of each session

j_table_session : Session fresh_block j_table
unfolding gets handed call row declined fresh j_table
j_table_session = refl

j_table_right : Right j_table
unfolding computed fresh j_line j_with j j_table
j_table_right = right_by j_table refl

pub j_costs : plan_costs (plain_exchanges fresh_block (calls j_table)) ≡ 3 ∷ 2 ∷ 3 ∷ 2 ∷ []
unfolding computed plan_costs told j_line j_table
j_costs = rw (session_told fresh_block j_table j_table_session j_table_right) refl

pub unequal_costs : plan_costs (plain_exchanges fresh_block (calls unequal.table)) ≡ 9 ∷ 9 ∷ 10 ∷ 9 ∷ 12 ∷ 9 ∷ []
unfolding computed plan_costs told unequal.table
unequal_costs = rw (session_told fresh_block unequal.table unequal.table_session unequal.table_right) refl
