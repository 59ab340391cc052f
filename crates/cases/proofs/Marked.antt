-- Document 01's session and its twelve marked cases. The replies are the document's; the blocks were worked out by hand from its rules, and are the reference implementation's too.
use mathlib.Core.Path.{refl}
use mathlib.Core.List.{List, [], ◌∷◌}
use Prim.Native.Nat.{ℕ}
use lib.ListN.{length, take}
use Rattle.tables.specs.WellFormed.{fresh_block}
use Rattle.cases.specs.Written.{Written}
use Rattle.cases.specs.Calls.{Block, held, Row, call, row, declined, Right}
use Rattle.cases.specs.Computed.{computed}
use Rattle.cases.specs.Studies.{fresh, j_line, j_with, j}
use Rattle.cases.specs.Sessions.{gets, handed, Session}
use Rattle.cases.proofs.Rows.{right_by}

-- J tightened: rows give 0 and 2 to train 0, columns 1 and 0 to train 1; then 2 goes from train 0 to the constant
unfoldable pub tight : Block
unfolding computed j_with
tight = held (j_with 2 ((0 ∷ 0 ∷ []) ∷ (1 ∷ 0 ∷ []) ∷ []) ((0 ∷ 0 ∷ []) ∷ (0 ∷ 0 ∷ []) ∷ [])) refl

-- J as case 9 leaves it
unfoldable pub lifted : Block
unfolding computed j_with
lifted = held (j_with 2 ((0 ∷ 0 ∷ []) ∷ (0 ∷ 0 ∷ []) ∷ []) ((1 ∷ 0 ∷ []) ∷ (1 ∷ 0 ∷ []) ∷ [])) refl

-- one train whose choices have these costs, one part a point
unfoldable pub alone : List ℕ → Written
alone costs =
    record {
      scale = 1;
      constant = 0;
      sizes = length costs ∷ [];
      firsts = [];
      seconds = [];
      loaded_choices = costs ∷ [];
      held_choices = costs ∷ [];
      loaded_entries = [];
      held_entries = [];
    }

-- as case 11 leaves it: a cost of 0F4240
unfoldable pub dear : Block
unfolding computed alone
dear = held (alone (1000000 ∷ [])) refl

-- as case 12 leaves it: eight choices
unfoldable pub eight : Block
unfolding computed alone
eight = held (alone (0 ∷ 0 ∷ 0 ∷ 0 ∷ 0 ∷ 0 ∷ 0 ∷ 0 ∷ [])) refl

unfoldable pub table : List Row
table =
    -- cases 1 to 4: load J, tighten, certify, search. The others begin with a fresh block, or with one that these leave
    row fresh j_line "81 000000000000 000000000000" j
    ∷ row j "04" "84 000000000002 000000000002" tight
    ∷ row tight "05 000001 000001 000000 000000 000001 000000 000001 000000 000000" "85 01 0000000000000002 000001" tight
    ∷ row tight "06 0000000A" "86 01 00000003 000000000002 00 01" tight
    -- case 5: 'J then the search line: count 6, cost 2, plan 0 1'
    ∷ row j "06 0000000A" "86 01 00000006 000000000002 00 01" j
    -- case 6: 'J then the certificate'
    ∷ row j "05 000001 000001 000000 000000 000001 000000 000001 000000 000000" "85 00 0000000000000002 000001" j
    -- case 7: 'J, tighten, budget 3'; document 02, change 6: 'case 7 says ended with count 3'
    ∷ row tight "06 00000003" "86 01 00000003 000000000002 00 01" tight
    -- with one try less the bound is not met
    ∷ row tight "06 00000002" "86 00 00000002 000000000003 00 00" tight
    -- case 8: 'J, budget 1: spent, count 1, no plan'
    ∷ row j "06 00000001" "86 00 00000001 FFFFFFFFFFFF FF FF" j
    -- case 9: 'J, u_0 = 2 with move 2 on train 0 choice 1, rest 0: accepted, c0 = 2'
    ∷ row j "03 000000000002 000000000000 000000000000 000000000002 000000000000 000000000000" "83 000000000002 000000000002" lifted
    -- case 10: 'the same without the move: 12'
    ∷ declined j "03 000000000002 000000000000 000000000000 000000000000 000000000000 000000000000" "FF 0C"
    -- case 11: 'a cost 0F4240 loads'
    ∷ row fresh "01 01 0001 01 0F4240 00" "81 000000000000 000000000000" dear
    -- case 12: 'a size of 8 loads; a size of 9 is 6'
    ∷ row fresh "01 01 0001 08 000000 000000 000000 000000 000000 000000 000000 000000 00" "81 000000000000 000000000000" eight
    ∷ declined fresh "01 01 0001 09" "FF 06"
    ∷ []

pub table_right : Right table
unfolding computed fresh j_line j_with j tight lifted alone dear eight table
table_right = right_by table refl

-- cases 1 to 4 are one list of calls from a fresh block
pub session : Session fresh_block (take 4 table)
unfolding gets handed call row fresh table
session = refl
