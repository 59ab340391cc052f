-- 'What is declined, with an input for each': document 01's seventeen rows in its order, each with the document's own example, 2 and 11 with those of document 02, changes 14 and 3; then inputs that two rows decline, for the order of the reasons.
use mathlib.Core.Path.{refl}
use mathlib.Core.Bool.{false}
use mathlib.Core.List.{List, [], ◌∷◌}
use Prim.Native.Nat.{◌-◌}
use lib.IntN.{pos}
use lib.ListN.{replicate}
use Rattle.service.specs.Answer.{min_buffer}
use Rattle.cases.specs.Calls.{Block, Row, declined, declined_long, silent, Right}
use Rattle.cases.specs.Computed.{computed}
use Rattle.cases.specs.Studies.{fresh, j_line, j_with, j}
use Rattle.cases.proofs.Rows.{right_by}

-- 'block of 6,651'
unfoldable pub short : Block
unfolding computed
short = record { numbers = replicate 6651 (pos 0); formed = false; shown = refl }

unfoldable pub table : List Row
table =
    -- 1: 'empty, odd count, other character'
    declined fresh "0" "FF01"
    -- 2: over 19,836 characters, by document 02, change 14, 'its example 19,837 zeros'
    ∷ declined_long fresh "" 19837 "FF02"
    -- 3: 'no such kind'
    ∷ declined fresh "FF" "FF03"
    -- 4: 'kinds 02-06 on a fresh block'
    ∷ declined fresh "04" "FF04"
    -- 5: 'field not wholly there, or bytes left over'
    ∷ declined j "0400" "FF05"
    -- 6: 'n, s, size or m outside the block's ranges'
    ∷ declined fresh "0100" "FF06"
    -- 7: 'cost or added points over 1,000,000'
    ∷ declined fresh "01010001010F4241" "FF07"
    -- 8: 'i not below j, j not below n, pair not after the last'
    ∷ declined fresh "0101000101000000010000" "FF08"
    -- 9: 'train or choice absent'
    ∷ declined j "020200000001" "FF09"
    -- 10: 'H would pass 1,000,000'
    ∷ declined j "0200000F4240" "FF0A"
    -- 11: a lift outside −10^12 to 10^12, 'move outside ±10^12': a lift of −10^12 − 1
    ∷ declined j "03FF172B5AEFFF" "FF0B"
    -- 12: 'c0 or an entry would end below 0 or above L': a lift of 1, 'and 60 zeros'
    ∷ declined_long j "03000000000001" 60 "FF0C"
    -- 13: 'W outside 1 to 100,000'
    ∷ declined j "05000000" "FF0D"
    -- 14: 'weights' sums disagree': W = 1, 'and 48 zeros'
    ∷ declined_long j "05000001" 48 "FF0E"
    -- 15: 'budget outside 1 to 10,000,000'
    ∷ declined j "0600000000" "FF0F"
    -- 16: 'block of another length or not well formed'
    ∷ declined short j_line "FF10"
    -- 17: 'reply buffer below' 74 'bytes', by document 02, change 14
    ∷ silent (min_buffer - 1) fresh j_line
    -- 'Order: 17, 16, 2, 1, 3, 4. Then fields': 17 before 16, 16 before 2, 1 before 3, 4 before 5; 2 before 1 is row 2, whose count is odd
    ∷ silent (min_buffer - 1) short "04"
    ∷ declined_long short "" 19837 "FF10"
    ∷ declined fresh "FFF" "FF01"
    ∷ declined fresh "0400" "FF04"
    -- a lift of −1 is fine, and the next field is not there
    ∷ declined j "03FFFFFFFFFFFF" "FF05"
    ∷ []

pub table_right : Right table
unfolding computed fresh j_line j_with j short table
table_right = right_by table refl
