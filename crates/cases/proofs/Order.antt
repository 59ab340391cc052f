-- Document 02, change 10: orders by lines of kind 0B, and what lines make of a block whose trains stand in another order than the loaded one. A load sets its own order, every other line but 0B leaves the
-- block's, and a save does not hold it. An ended search shows one cost in every order. Replies are the reference implementation's.
use mathlib.Core.Path.{refl}
use mathlib.Core.List.{List, [], ◌∷◌}
use Rattle.cases.specs.Written.{closed, Written}
use Rattle.cases.specs.Calls.{Block, held, held_in, Row, row, declined, Right}
use Rattle.cases.specs.Computed.{computed}
use Rattle.cases.specs.Studies.{j_line, j_with, j, turned, without_pairs}
use Rattle.cases.proofs.Rows.{right_by}

-- two trains, of which one clause asks for choice 0 of train 0, and one for choice 1 of train 1
unfoldable pub asked : Block
unfolding computed without_pairs
asked = held (without_pairs 1 (2 ∷ 2 ∷ []) ((0 ∷ 1 ∷ []) ∷ (1 ∷ 0 ∷ []) ∷ []) 0 ((0 ∷ 1 ∷ []) ∷ (1 ∷ 0 ∷ []) ∷ [])) refl

-- tightened: rows give 0 and 2 to train 0, columns 1 and 0 to train 1; then 2 goes from train 0 to the constant
unfoldable pub turned_tight : Block
unfolding computed j_with
turned_tight = held_in (1 ∷ 0 ∷ []) (j_with 2 ((0 ∷ 0 ∷ []) ∷ (1 ∷ 0 ∷ []) ∷ []) ((0 ∷ 0 ∷ []) ∷ (0 ∷ 0 ∷ []) ∷ [])) refl

-- shifted: train 0 lifts 2, and row 1 gives it 2. A round of this study moves the same
unfoldable pub turned_lifted : Block
unfolding computed j_with
turned_lifted = held_in (1 ∷ 0 ∷ []) (j_with 2 ((0 ∷ 0 ∷ []) ∷ (0 ∷ 0 ∷ []) ∷ []) ((1 ∷ 0 ∷ []) ∷ (1 ∷ 0 ∷ []) ∷ [])) refl

-- two trains whose best plans are 0 1 and 1 0
unfoldable pub twins : Written
twins =
    record {
      scale = 1;
      constant = 0;
      sizes = 2 ∷ 2 ∷ [];
      firsts = 0 ∷ [];
      seconds = 1 ∷ [];
      loaded_choices = [];
      held_choices = [];
      loaded_entries = ((1 ∷ 0 ∷ []) ∷ (0 ∷ 1 ∷ []) ∷ []) ∷ [];
      held_entries = ((1 ∷ 0 ∷ []) ∷ (0 ∷ 1 ∷ []) ∷ []) ∷ [];
    }

unfoldable pub twins_turned : Block
unfolding computed twins
twins_turned = held_in (1 ∷ 0 ∷ []) twins refl

unfoldable pub twins_loaded : Block
unfolding computed twins
twins_loaded = held twins refl

-- three trains of 2, 3 and 2 choices, each two of which share a pair
unfoldable pub trio : Written
trio =
    record {
      scale = 1;
      constant = 0;
      sizes = 2 ∷ 3 ∷ 2 ∷ [];
      firsts = 0 ∷ 0 ∷ 1 ∷ [];
      seconds = 1 ∷ 2 ∷ 2 ∷ [];
      loaded_choices = (0 ∷ 0 ∷ []) ∷ (0 ∷ 0 ∷ 2 ∷ []) ∷ (1 ∷ 0 ∷ []) ∷ [];
      held_choices = (0 ∷ 0 ∷ []) ∷ (0 ∷ 0 ∷ 2 ∷ []) ∷ (1 ∷ 0 ∷ []) ∷ [];
      loaded_entries = ((2 ∷ 3 ∷ 0 ∷ []) ∷ (0 ∷ 0 ∷ 1 ∷ []) ∷ []) ∷ ((4 ∷ 4 ∷ []) ∷ (1 ∷ 0 ∷ []) ∷ []) ∷ ((0 ∷ 1 ∷ []) ∷ (0 ∷ 7 ∷ []) ∷ (2 ∷ 0 ∷ []) ∷ []) ∷ [];
      held_entries = ((2 ∷ 3 ∷ 0 ∷ []) ∷ (0 ∷ 0 ∷ 1 ∷ []) ∷ []) ∷ ((4 ∷ 4 ∷ []) ∷ (1 ∷ 0 ∷ []) ∷ []) ∷ ((0 ∷ 1 ∷ []) ∷ (0 ∷ 7 ∷ []) ∷ (2 ∷ 0 ∷ []) ∷ []) ∷ [];
    }

unfoldable pub trio_012 : Block
unfolding computed trio
trio_012 = held trio refl

unfoldable pub trio_021 : Block
unfolding computed trio
trio_021 = held_in (0 ∷ 2 ∷ 1 ∷ []) trio refl

unfoldable pub trio_102 : Block
unfolding computed trio
trio_102 = held_in (1 ∷ 0 ∷ 2 ∷ []) trio refl

unfoldable pub trio_120 : Block
unfolding computed trio
trio_120 = held_in (1 ∷ 2 ∷ 0 ∷ []) trio refl

unfoldable pub trio_201 : Block
unfolding computed trio
trio_201 = held_in (2 ∷ 0 ∷ 1 ∷ []) trio refl

unfoldable pub trio_210 : Block
unfolding computed trio
trio_210 = held_in (2 ∷ 1 ∷ 0 ∷ []) trio refl

-- two trains, of which no two choices are permitted together
unfoldable pub barred : Written
barred =
    record {
      scale = 1;
      constant = 0;
      sizes = 2 ∷ 2 ∷ [];
      firsts = 0 ∷ [];
      seconds = 1 ∷ [];
      loaded_choices = (closed ∷ 0 ∷ []) ∷ (0 ∷ 0 ∷ []) ∷ [];
      held_choices = (closed ∷ 0 ∷ []) ∷ (0 ∷ 0 ∷ []) ∷ [];
      loaded_entries = ((0 ∷ 0 ∷ []) ∷ (closed ∷ closed ∷ []) ∷ []) ∷ [];
      held_entries = ((0 ∷ 0 ∷ []) ∷ (closed ∷ closed ∷ []) ∷ []) ∷ [];
    }

unfoldable pub barred_loaded : Block
unfolding computed barred
barred_loaded = held barred refl

unfoldable pub barred_turned : Block
unfolding computed barred
barred_turned = held_in (1 ∷ 0 ∷ []) barred refl

unfoldable pub table : List Row
table =
    -- 'The reply is 8B and the order'; the search counts more tries for the same plan
    row j "0B 01 00" "8B 01 00" turned
    ∷ row turned "06 0000000A" "86 01 00000006 000000000002 00 01" turned
    ∷ row turned_tight "06 0000000A" "86 01 00000005 000000000002 00 01" turned_tight
    -- 21 leaves the order
    ∷ declined turned "0B 01 01" "FF 15"
    -- another plan, the same cost
    ∷ row twins_loaded "06 00000063" "86 01 00000003 000000000000 00 01" twins_loaded
    ∷ row twins_loaded "0B 01 00" "8B 01 00" twins_turned
    ∷ row twins_turned "06 00000063" "86 01 00000003 000000000000 01 00" twins_turned
    -- each order of three trains
    ∷ row trio_012 "06 000003E7" "86 01 00000012 000000000001 01 00 01" trio_012
    ∷ row trio_012 "0B 00 02 01" "8B 00 02 01" trio_021
    ∷ row trio_021 "06 000003E7" "86 01 00000012 000000000001 01 00 01" trio_021
    ∷ row trio_102 "06 000003E7" "86 01 0000000D 000000000001 01 00 01" trio_102
    ∷ row trio_120 "06 000003E7" "86 01 0000000B 000000000001 01 00 01" trio_120
    ∷ row trio_201 "06 000003E7" "86 01 0000000F 000000000001 01 00 01" trio_201
    ∷ row trio_210 "06 000003E7" "86 01 0000000E 000000000001 01 00 01" trio_210
    -- spent, by train number
    ∷ row trio_210 "06 00000009" "86 00 00000009 000000000002 01 00 00" trio_210
    -- no plan in either order
    ∷ row barred_loaded "06 0000000A" "86 02 00000004 FFFFFFFFFFFF FF FF" barred_loaded
    ∷ row barred_turned "06 0000000A" "86 02 00000006 FFFFFFFFFFFF FF FF" barred_turned
    -- 'a load, also of kind 09, sets 0 to n−1'
    ∷ row turned j_line "81 000000000000 000000000000" j
    ∷ row turned "09 02 0001 0002 01 00 000001 FE 00 000001" "89 000000000000 000000000000" asked
    -- every other line leaves the order
    ∷ row turned "03 000000000002 000000000000 000000000000 000000000002 000000000000 000000000000" "83 000000000002 000000000002" turned_lifted
    ∷ row turned "04" "84 000000000002 000000000002" turned_tight
    ∷ row turned "08" "88 000000000002 000000000002" turned_lifted
    -- a save does not hold it
    ∷ row turned "07" j_line turned
    -- nor does a declined line change it, a load among them
    ∷ declined turned "02 00 00 0F4240" "FF 0A"
    ∷ declined turned "01 00" "FF 06"
    ∷ []

pub table_right : Right table
unfolding computed j_line j_with j turned without_pairs asked turned_tight turned_lifted twins twins_loaded twins_turned trio trio_012 trio_021 trio_102 trio_120 trio_201 trio_210 barred barred_loaded barred_turned table
table_right = right_by table refl
