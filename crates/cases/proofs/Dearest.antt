-- Document 02, change 13: the dearest study of given sizes, on blocks that hold a study or none, and searches of the study that its line loads. No line of kind 0F changes the block. Replies are the document's or the reference implementation's.
use mathlib.Core.Path.{refl}
use mathlib.Core.List.{List, [], ◌∷◌}
use Rattle.cases.specs.Written.{text}
use Rattle.cases.specs.Calls.{Block, held, Row, call, row, declined, silent, Right}
use Rattle.cases.specs.Computed.{computed}
use Rattle.cases.specs.Studies.{fresh, j_with, j, turned, without_pairs}
use Rattle.cases.proofs.Rows.{right_by}

-- the dearest study of the sizes 2 and 2, and of 2, 3 and 4, as their lines load them
unfoldable pub two : Block
unfolding computed without_pairs
two = held (without_pairs 1 (2 ∷ 2 ∷ []) ((0 ∷ 0 ∷ []) ∷ (1 ∷ 1 ∷ []) ∷ []) 0 ((0 ∷ 0 ∷ []) ∷ (1 ∷ 1 ∷ []) ∷ [])) refl

unfoldable pub three : Block
unfolding computed without_pairs
three =
    held
    (without_pairs 1 (2 ∷ 3 ∷ 4 ∷ []) ((0 ∷ 0 ∷ []) ∷ (0 ∷ 0 ∷ 0 ∷ []) ∷ (1 ∷ 1 ∷ 1 ∷ 1 ∷ []) ∷ []) 0 ((0 ∷ 0 ∷ []) ∷ (0 ∷ 0 ∷ 0 ∷ []) ∷ (1 ∷ 1 ∷ 1 ∷ 1 ∷ []) ∷ []))
    refl

unfoldable pub table : List Row
table =
    -- 5 and 6, from left to right; 4 is not judged
    declined fresh "0F" "FF 05"
    ∷ declined fresh "0F 01" "FF 05"
    ∷ declined fresh "0F 02 02 02 00" "FF 05"
    ∷ declined fresh "0F 01 01 00" "FF 05"
    ∷ declined fresh "0F 00" "FF 06"
    ∷ declined fresh "0F 19" "FF 06"
    ∷ declined fresh "0F 01 00" "FF 06"
    ∷ declined fresh "0F 01 09" "FF 06"
    -- 'It answers with a load line', and 'of the block only 16 is judged'
    ∷ row fresh "0F 01 01" "01 01 0001 01 000001 00" fresh
    ∷ row fresh "0F 02 02 02" "01 02 0001 02 02 000000 000000 000001 000001 00" fresh
    ∷ row j "0F 02 02 02" "01 02 0001 02 02 000000 000000 000001 000001 00" j
    ∷ row turned "0F 02 02 02" "01 02 0001 02 02 000000 000000 000001 000001 00" turned
    -- 'whose search straight after loading, with enough budget, tries as many': 2 + 2 × 2, and 2 + 2 × 3 + 2 × 3 × 4
    ∷ row j "01 02 0001 02 02 000000 000000 000001 000001 00" "81 000000000000 000000000000" two
    ∷ row two "06 00000006" "86 01 00000006 000000000001 00 00" two
    ∷ row two "06 00000005" "86 00 00000005 000000000001 00 00" two
    ∷ row three "06 00000020" "86 01 00000020 000000000001 00 00 00" three
    ∷ row three "06 0000001F" "86 00 0000001F 000000000001 00 00 00" three
    -- '24, that sum exceeds 10,000,000, after 5'
    ∷ declined fresh "0F 08 08 08 08 08 08 08 08 08" "FF 18"
    ∷ declined fresh "0F 0E 01 08 01 06 06 01 08 01 06 02 08 04 05 01" "FF 18"
    ∷ declined fresh "0F 0E 01 08 01 06 06 01 08 01 06 02 08 04 05 01 00" "FF 05"
    -- '17 as for a save, last'
    ∷ silent 109 fresh "0F 02 08 08"
    ∷ call 110 fresh (text "0F 02 08 08") "01 02 0001 08 08 000000 000000 000000 000000 000000 000000 000000 000000 000001 000001 000001 000001 000001 000001 000001 000001 00" fresh
    ∷ []

pub table_right : Right table
unfolding computed fresh j_with j turned without_pairs two three table
table_right = right_by table refl
