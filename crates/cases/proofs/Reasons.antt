-- Document 02, change 8: reasons on J, on J tightened, on three trains of which each two share a pair, at two parts a point, with forbidden entries, and on a study written as clauses.
-- Replies were worked out by hand from the documents' rules, and are the reference implementation's too.
use mathlib.Core.Path.{refl}
use mathlib.Core.List.{List, [], ◌∷◌}
use lib.ListN.{take}
use Rattle.tables.specs.WellFormed.{fresh_block}
use Rattle.cases.specs.Written.{closed}
use Rattle.cases.specs.Calls.{Block, held, Row, call, row, declined, Right}
use Rattle.cases.specs.Computed.{computed}
use Rattle.cases.specs.Studies.{fresh, j_with, j, without_pairs}
use Rattle.cases.specs.Sessions.{gets, handed, Session}
use Rattle.cases.proofs.Rows.{right_by}
use Rattle.cases.proofs.Marked.{tight}
use Rattle.cases.proofs.Clauses.{two_with, three}

-- three trains, each two of which share a pair
unfoldable pub triangle : Block
unfolding computed
triangle =
    held
    (record {
      scale = 1;
      constant = 0;
      sizes = 2 ∷ 2 ∷ 2 ∷ [];
      firsts = 0 ∷ 0 ∷ 1 ∷ [];
      seconds = 1 ∷ 2 ∷ 2 ∷ [];
      loaded_choices = (0 ∷ 0 ∷ []) ∷ (0 ∷ 0 ∷ []) ∷ (1 ∷ 0 ∷ []) ∷ [];
      held_choices = (0 ∷ 0 ∷ []) ∷ (0 ∷ 0 ∷ []) ∷ (1 ∷ 0 ∷ []) ∷ [];
      loaded_entries = ((2 ∷ 3 ∷ []) ∷ (0 ∷ 0 ∷ []) ∷ []) ∷ ((4 ∷ 4 ∷ []) ∷ (0 ∷ 0 ∷ []) ∷ []) ∷ ((0 ∷ 0 ∷ []) ∷ (0 ∷ 7 ∷ []) ∷ []) ∷ [];
      held_entries = ((2 ∷ 3 ∷ []) ∷ (0 ∷ 0 ∷ []) ∷ []) ∷ ((4 ∷ 4 ∷ []) ∷ (0 ∷ 0 ∷ []) ∷ []) ∷ ((0 ∷ 0 ∷ []) ∷ (0 ∷ 7 ∷ []) ∷ []) ∷ [];
    })
    refl

-- two trains of one choice each and two parts a point, before and after a lift of one part off the first
unfoldable pub even : Block
unfolding computed without_pairs
even = held (without_pairs 2 (1 ∷ 1 ∷ []) ((1 ∷ []) ∷ (1 ∷ []) ∷ []) 0 ((2 ∷ []) ∷ (2 ∷ []) ∷ [])) refl

unfoldable pub odd : Block
unfolding computed without_pairs
odd = held (without_pairs 2 (1 ∷ 1 ∷ []) ((1 ∷ []) ∷ (1 ∷ []) ∷ []) 1 ((1 ∷ []) ∷ (2 ∷ []) ∷ [])) refl

-- a forbidden choice of trains 0 and 1, and a forbidden pair of choices; choice 1 of train 0 is permitted with no permitted choice of train 1
unfoldable pub barred : Block
unfolding computed
barred =
    held
    (record {
      scale = 1;
      constant = 0;
      sizes = 2 ∷ 2 ∷ 2 ∷ [];
      firsts = 0 ∷ 1 ∷ [];
      seconds = 1 ∷ 2 ∷ [];
      loaded_choices = (closed ∷ 0 ∷ []) ∷ (0 ∷ closed ∷ []) ∷ (5 ∷ 1 ∷ []) ∷ [];
      held_choices = (closed ∷ 0 ∷ []) ∷ (0 ∷ closed ∷ []) ∷ (5 ∷ 1 ∷ []) ∷ [];
      loaded_entries = ((0 ∷ 0 ∷ []) ∷ (closed ∷ 3 ∷ []) ∷ []) ∷ ((0 ∷ 0 ∷ []) ∷ (0 ∷ 0 ∷ []) ∷ []) ∷ [];
      held_entries = ((0 ∷ 0 ∷ []) ∷ (closed ∷ 3 ∷ []) ∷ []) ∷ ((0 ∷ 0 ∷ []) ∷ (0 ∷ 0 ∷ []) ∷ []) ∷ [];
    })
    refl

unfoldable pub table : List Row
table =
    -- J: choice 0 of train 0 costs 2 by itself, and choice 1 costs at least 2 with train 1
    row fresh "01 02 0001 02 02 000002 000000 000000 000000 01 00 01 000001 000000 000003 000002" "81 000000000000 000000000000" j
    ∷ row j "0A 00 00 00000002" "8A 01 FF" j
    ∷ row j "0A 00 00 00000003" "8A 00 FF" j
    ∷ row j "0A 00 01 00000002" "8A 02 01" j
    ∷ row j "0A 00 01 00000003" "8A 00 FF" j
    -- the train is the pair's second
    ∷ row j "0A 01 00 00000001" "8A 02 00" j
    ∷ row j "0A 01 01 00000001" "8A 02 00" j
    -- a limit of 0 is always reached
    ∷ row j "0A 01 01 00000000" "8A 01 FF" j
    -- tightened, the constant counts
    ∷ row j "04" "84 000000000002 000000000002" tight
    ∷ row tight "0A 01 00 00000003" "8A 01 FF" tight
    ∷ row tight "0A 01 00 00000004" "8A 00 FF" tight
    ∷ row tight "0A 00 00 00000002" "8A 01 FF" tight
    ∷ row tight "0A 00 00 00000003" "8A 00 FF" tight
    -- the first pair that reaches is named, and pairs are never summed
    ∷ row fresh "01 03 0001 02 02 02 000000 000000 000000 000000 000001 000000 03 00 01 000002 000003 000000 000000 00 02 000004 000004 000000 000000 01 02 000000 000000 000000 000007"
    "81 000000000000 000000000000" triangle
    ∷ row triangle "0A 00 00 00000002" "8A 02 01" triangle
    ∷ row triangle "0A 00 00 00000003" "8A 02 02" triangle
    ∷ row triangle "0A 00 00 00000004" "8A 02 02" triangle
    ∷ row triangle "0A 00 00 00000005" "8A 00 FF" triangle
    ∷ row triangle "0A 01 01 00000001" "8A 02 02" triangle
    -- in parts: 3 do not reach 2 points of two parts, which the bound, rounded up, does
    ∷ row fresh "01 02 0002 01 01 000001 000001 00" "81 000000000000 000000000000" even
    ∷ row even "03 000000000001 000000000000" "83 000000000001 000000000001" odd
    ∷ row odd "0A 01 00 00000002" "8A 00 FF" odd
    ∷ row odd "0A 01 00 00000001" "8A 01 FF" odd
    -- a forbidden choice is out at every limit, and so is one that is permitted with no choice of a partner
    ∷ row fresh "01 03 0001 02 02 02 FFFFFF 000000 000000 FFFFFF 000005 000001 02 00 01 000000 000000 FFFFFF 000003 01 02 000000 000000 000000 000000" "81 000000000000 000000000000" barred
    ∷ row barred "0A 00 00 FFFFFFFF" "8A 01 FF" barred
    ∷ row barred "0A 00 01 00000001" "8A 02 01" barred
    ∷ row barred "0A 00 01 FFFFFFFF" "8A 02 01" barred
    ∷ row barred "0A 01 00 00000001" "8A 02 00" barred
    ∷ row barred "0A 01 01 00000009" "8A 01 FF" barred
    -- a study written as clauses is one like any other
    ∷ row fresh "09 02 0001 0003 01 02 000005 FF 00 000002 FE 01 000001" "89 000000000000 000000000000" three
    ∷ row three "0A 00 00 00000002" "8A 01 FF" three
    ∷ row three "0A 00 00 00000003" "8A 00 FF" three
    ∷ row three "0A 01 01 00000002" "8A 02 00" three
    ∷ row three "0A 01 01 00000003" "8A 00 FF" three
    -- a fresh block has no study
    ∷ declined fresh "0A 00 00 00000001" "FF04"
    ∷ []

pub table_right : Right table
unfolding computed fresh j_with j tight triangle without_pairs even odd barred two_with three table
table_right = right_by table refl

-- its first eight rows are one list of calls from a fresh block
pub session : Session fresh_block (take 8 table)
unfolding gets handed call row fresh table
session = refl
