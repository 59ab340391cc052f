-- Document 02, change 14: lines over train radio, on a fresh block, on J and on J tightened, and the plain lines beside them. Replies are the document's or the reference implementation's.
use mathlib.Core.Path.{refl}
use mathlib.Core.List.{List, [], ◌∷◌}
use Rattle.cases.specs.Written.{text}
use Rattle.cases.specs.Calls.{Row, row, declined, silent, Right}
use Rattle.cases.specs.Computed.{computed}
use Rattle.cases.specs.Studies.{fresh, j_line, j_with, j, turned, without_pairs}
use Rattle.cases.proofs.Rows.{right_by}
use Rattle.cases.proofs.Clauses.{two_with, three}
use Rattle.cases.proofs.Dearest.{two}
use Rattle.cases.proofs.Records.{j_tight, crowd, long_line, shown_long, silent_long}
use Rattle.cases.proofs.Refusals.{short}
use Rattle.cases.proofs.Rounds.{branch_with, branch, branch_round}

unfoldable pub table : List Row
table =
    -- 25, 'wrong sum, after 3 and before 4'; its reply ends in a sum too
    declined fresh "44" "FF 19 E8"
    ∷ declined fresh "4F" "FF 19 E8"
    ∷ declined fresh "44 BC" "FF 04 FD"
    -- '1, 2, 3 and 16 come before the kind is known and stay plain'
    ∷ declined fresh "40 C0" "FF 03"
    ∷ declined fresh "50 B0" "FF 03"
    ∷ declined fresh "440" "FF 01"
    ∷ declined fresh "44bc" "FF 01"
    ∷ declined short "44 BC" "FF 10"
    -- each kind in its second form: 01,
    ∷ row fresh "41 02 0001 02 02 000002 000000 000000 000000 01 00 01 000001 000000 000003 000002 AE" "C1 000000000000 000000000000 3F" j
    ∷ declined fresh "41 02 0001 02 02 000002 000000 000000 000000 01 00 01 000001 000000 000003 000002 00" "FF 19 E8"
    -- 04,
    ∷ row j "44 BC" "C4 000000000002 000000000002 38" j_tight
    ∷ declined j "44 BD" "FF 19 E8"
    -- 05, 06 and 07, which plain answers the plain line,
    ∷ row j_tight "45 000001 000001 000000 000000 000001 000000 000001 000000 000000 B7" "C5 01 0000000000000002 000001 37" j_tight
    ∷ row j_tight "46 0000000A B0" "C6 01 00000003 000000000002 00 01 33" j_tight
    ∷ row j_tight "47 B9" "41 02 0001 02 02 000002 000000 000000 000000 01 00 01 000001 000000 000003 000002 AE" j_tight
    ∷ row j_tight "07" j_line j_tight
    -- 08, 09, 0A and 0B,
    ∷ row branch "48 B8" "C8 000000000001 000000000001 36" branch_round
    ∷ row fresh "49 02 0001 0003 01 02 000005 FF 00 000002 FE 01 000001 A8" "C9 000000000000 000000000000 37" three
    ∷ row j_tight "4A 00 00 00000005 B1" "CA 00 FF 37" j_tight
    ∷ row j "4B 01 00 B4" "CB 01 00 34" turned
    -- 0E, 0C and 0D: 'a screen's answer depends on bound and cost bytes only by whether the sum is right'
    ∷ row j_tight "4E 00 01 B1" "CE 02 00 01 000000000002 000000000002 2B" j_tight
    ∷ row j_tight "4C 02 00 01 000000000002 000000000002 AD" "CC 02 00 01 31" j_tight
    ∷ row j_tight "4C 02 00 01 000000000000 00000000FFFF B3" "CC 02 00 01 31" j_tight
    ∷ declined j_tight "4C 02 00 01 000000000000 00000000FFFF 00" "FF 19 E8"
    ∷ declined j_tight "4D 02 00 01 000000000003 000000000002 AB" "FF 17 EA"
    -- 0F, and what it answers goes back by radio
    ∷ row j_tight "4F 02 02 02 AB" "41 02 0001 02 02 000000 000000 000001 000001 00 B6" j_tight
    ∷ row fresh "41 02 0001 02 02 000000 000000 000001 000001 00 B6" "C1 000000000000 000000000000 3F" two
    ∷ row two "46 00000006 B4" "C6 01 00000006 000000000001 00 00 32" two
    -- the sum is no field: 5 and 9, with their sums
    ∷ declined j_tight "44 00 BC" "FF 05 FC"
    ∷ declined j_tight "4C 03 B1" "FF 05 FC"
    ∷ declined j_tight "42 02 00 000001 BB" "FF 09 F8"
    -- 'in a buffer two bytes shorter': the longest fixed reply in the smallest buffer, and a record in one that just holds it
    ∷ silent 73 fresh "44 BC"
    ∷ shown_long 74 crowd (text "46 000000FF BB") (long_line "C6 01 00000018 000000000018" 48 "09")
    ∷ silent_long 77 crowd (long_line "4E" 48 "B2")
    ∷ shown_long 78 crowd (long_line "4E" 48 "B2") (long_line "CE18" 48 "000000000000 000000000018 02")
    ∷ []

pub table_right : Right table
unfolding computed fresh j_line j_with j turned without_pairs two_with three two j_tight crowd long_line shown_long silent_long short branch_with branch branch_round table
table_right = right_by table refl
