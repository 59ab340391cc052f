-- Document 02, change 12: six lists of calls from the fresh block. On K, whose ceiling is half a point, three rooms reach one constant, of which one loads K as clauses, and they shift and certify otherwise; a fourth
-- does not reach it. On J two certificates with W = 1 say reached, each on another best plan. Replies and blocks were worked out by hand from the documents' rules, and are the reference implementation's too.
use mathlib.Core.Path.{◌≡◌, refl}
use mathlib.Core.Bool.{Bool, true, false}
use mathlib.Core.List.{List, [], ◌∷◌, ◌++◌}
use Prim.Native.Nat.{ℕ}
use Prim.Native.String.{String}
use lib.IntN.{ℤ}
use Rattle.tables.specs.Block as block
use Rattle.tables.specs.WellFormed.{fresh_block}
use Rattle.replies.specs.Shown.{accepted}
use Rattle.claims.specs.Rooms.{says_reached, last_exchange}
use Rattle.cases.specs.Written.{Written}
use Rattle.cases.specs.Calls.{Block, held, Row, call, row, Right}
use Rattle.cases.specs.Computed.{computed}
use Rattle.cases.specs.Sessions.{gets, handed, told}
use Rattle.cases.specs.Studies.{fresh, j_line, j_with, j}
use Rattle.cases.proofs.Marked.{tight, lifted}
use Rattle.cases.proofs.Rows.{right_by}

-- ---- K: choice 0 of train 0 costs 1 point, and each two trains pay 1 where they take the same choice; two parts a point

-- with this constant, and these costs in parts
unfoldable pub k_with : ℕ → List (List ℕ) → List (List (List ℕ)) → Written
k_with c0 choices entries =
    record {
      scale = 2;
      constant = c0;
      sizes = 2 ∷ 2 ∷ 2 ∷ [];
      firsts = 0 ∷ 0 ∷ 1 ∷ [];
      seconds = 1 ∷ 2 ∷ 2 ∷ [];
      loaded_choices = (1 ∷ 0 ∷ []) ∷ [];
      held_choices = choices;
      loaded_entries = ((1 ∷ 0 ∷ []) ∷ (0 ∷ 1 ∷ []) ∷ []) ∷ ((1 ∷ 0 ∷ []) ∷ (0 ∷ 1 ∷ []) ∷ []) ∷ ((1 ∷ 0 ∷ []) ∷ (0 ∷ 1 ∷ []) ∷ []) ∷ [];
      held_entries = entries;
    }

unfoldable pub k : Block
unfolding computed k_with
k = held (k_with 0 ((2 ∷ 0 ∷ []) ∷ []) (((2 ∷ 0 ∷ []) ∷ (0 ∷ 2 ∷ []) ∷ []) ∷ ((2 ∷ 0 ∷ []) ∷ (0 ∷ 2 ∷ []) ∷ []) ∷ ((2 ∷ 0 ∷ []) ∷ (0 ∷ 2 ∷ []) ∷ []) ∷ [])) refl

-- shifted: 1 part is lifted, from train 1 or from train 2, and of each pair 1 part goes from one entry to the other that costs
unfoldable pub k_lifted : Block
unfolding computed k_with
k_lifted = held (k_with 1 [] (((3 ∷ 0 ∷ []) ∷ (0 ∷ 1 ∷ []) ∷ []) ∷ ((3 ∷ 0 ∷ []) ∷ (0 ∷ 1 ∷ []) ∷ []) ∷ ((1 ∷ 0 ∷ []) ∷ (0 ∷ 3 ∷ []) ∷ []) ∷ [])) refl

unfoldable pub k_line : String
k_line = "01 03 0002 02 02 02 000001 000000 000000 000000 000000 000000 03 00 01 000001 000000 000000 000001 00 02 000001 000000 000000 000001 01 02 000001 000000 000000 000001"

unfoldable pub k_clauses : String
k_clauses = "09 03 0002 0007 FF FE 000001 01 02 000001 FF FD 000001 01 03 000001 FE FD 000001 02 03 000001 FF 00 000001"

-- train 1 lifts 1, or train 2 does
unfoldable pub from_train_1 : String
from_train_1 =
    "03 000000000000 000000000001 000000000000 FFFFFFFFFFFF 000000000000 000000000000 000000000001 FFFFFFFFFFFF 000000000000 000000000000 000000000001 000000000001 000000000000 000000000000 FFFFFFFFFFFF"

unfoldable pub from_train_2 : String
from_train_2 =
    "03 000000000000 000000000000 000000000001 FFFFFFFFFFFF 000000000000 000000000000 000000000001 FFFFFFFFFFFF 000000000000 000000000000 000000000001 000000000000 FFFFFFFFFFFF 000000000001 000000000000"

-- halves on all choices, and on each two different ones: of 2, and of 4
unfoldable pub by_2 : String
by_2 = "05 000002 000001 000001 000001 000001 000001 000001 000000 000001 000001 000000 000000 000001 000001 000000 000000 000001 000001 000000"

unfoldable pub by_4 : String
by_4 = "05 000004 000002 000002 000002 000002 000002 000002 000000 000002 000002 000000 000000 000002 000002 000000 000000 000002 000002 000000"

-- ---- the lists

unfoldable pub table : List (List Row)
table =
    -- the first three have the constant 1, and 2 × 4 = 4 × 2
    (row fresh k_line "81 000000000000 000000000000" k
    ∷ row k from_train_1 "83 000000000001 000000000001" k_lifted
    ∷ row k_lifted by_2 "85 01 0000000000000002 000002" k_lifted
    ∷ [])
    ∷ (row fresh k_clauses "89 000000000000 000000000000" k
    ∷ row k from_train_2 "83 000000000001 000000000001" k_lifted
    ∷ row k_lifted by_4 "85 01 0000000000000004 000004" k_lifted
    ∷ [])
    ∷ (row fresh k_line "81 000000000000 000000000000" k
    ∷ row k from_train_2 "83 000000000001 000000000001" k_lifted
    ∷ row k_lifted by_4 "85 01 0000000000000004 000004" k_lifted
    ∷ [])
    -- a tightening finds nothing: E is 2 where W × c0 is 0
    ∷ (row fresh k_line "81 000000000000 000000000000" k
    ∷ row k "04" "84 000000000000 000000000000" k
    ∷ row k by_2 "85 00 0000000000000002 000002" k
    ∷ [])
    -- W = 1: plan 0 1, whose cost 2 is the least, and plan 1 1, which costs as much
    ∷ (row fresh j_line "81 000000000000 000000000000" j
    ∷ row j "04" "84 000000000002 000000000002" tight
    ∷ row tight "05 000001 000001 000000 000000 000001 000000 000001 000000 000000" "85 01 0000000000000002 000001" tight
    ∷ [])
    ∷ (row fresh j_line "81 000000000000 000000000000" j
    ∷ row j "08" "88 000000000002 000000000002" lifted
    ∷ row lifted "05 000001 000000 000001 000000 000001 000000 000000 000000 000001" "85 01 0000000000000002 000001" lifted
    ∷ [])
    ∷ []

-- ---- what is said of them

-- the rows of all lists
unfoldable pub all_rows : List (List Row) → List Row
all_rows [] = []
all_rows (rs ∷ ls) = rs ++ all_rows ls

-- each is a list of calls from the fresh block
unfoldable pub handed_each : List (List Row) → List (List (List ℤ))
handed_each [] = []
handed_each (rs ∷ ls) = handed fresh_block rs ∷ handed_each ls

unfoldable pub gets_each : List (List Row) → List (List (List ℤ))
gets_each [] = []
gets_each (rs ∷ ls) = gets rs ∷ gets_each ls

-- whether its last line is a certificate that says reached, and the constant of the block that it leaves
pub record Ending : Type 0 where
  pub reached : Bool
  pub constant : ℕ

unfoldable pub left_last : List ℤ → List Row → List ℤ
left_last b [] = b
left_last b (r ∷ rs) = left_last r.leaves.numbers rs

unfoldable pub endings : List (List Row) → List Ending
endings [] = []
endings (rs ∷ ls) = record { reached = says_reached (last_exchange (told rs)); constant = block.constant (left_last fresh_block rs) } ∷ endings ls

unfoldable pub said : List Ending
said =
    record { reached = true; constant = 1 }
    ∷ record { reached = true; constant = 1 }
    ∷ record { reached = true; constant = 1 }
    ∷ record { reached = false; constant = 0 }
    ∷ record { reached = true; constant = 2 }
    ∷ record { reached = true; constant = 2 }
    ∷ []

pub table_right : Right (all_rows table) × (handed_each table ≡ gets_each table) × (endings table ≡ said)
unfolding computed accepted gets handed told call row fresh j_line j_with j tight lifted k_with k k_lifted k_line k_clauses from_train_1 from_train_2 by_2 by_4 table all_rows handed_each gets_each left_last last_exchange endings said
table_right = (right_by (all_rows table) refl, refl, refl)
