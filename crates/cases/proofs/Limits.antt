-- Both sides of each limit that a line has, as far as no other table here has them: by loads and clauses on a fresh block, of J, and where entries are forbidden or costs are at L. Replies and blocks
-- were worked out by hand from the documents' rules, and are the reference implementation's too.
use mathlib.Core.Path.{refl}
use mathlib.Core.List.{List, [], ◌∷◌}
use Prim.Native.Nat.{ℕ}
use lib.ListN.{replicate}
use Rattle.cases.specs.Written.{closed, Written}
use Rattle.cases.specs.Calls.{Block, held, Row, row, declined, declined_long, Right}
use Rattle.cases.specs.Computed.{computed}
use Rattle.cases.specs.Studies.{fresh, without_pairs, j_with, j}
use Rattle.cases.proofs.Rows.{right_by}
use Rattle.cases.proofs.Clauses.{two_with}
use Rattle.cases.proofs.Forbidden.{clique, d, shut_with, shut, shut_lifted, apart}

-- ---- what a load or clauses leave

-- 24 trains of one choice
unfoldable pub many : Block
unfolding computed without_pairs
many = held (without_pairs 1 (replicate 24 1) [] 0 []) refl

-- the greatest cost at the greatest scale
unfoldable pub dearest : Block
unfolding computed without_pairs
dearest = held (without_pairs 1000 (1 ∷ []) ((1000000 ∷ []) ∷ []) 0 ((1000000000 ∷ []) ∷ [])) refl

-- the greatest cost of a pair
unfoldable pub dear_pair : Block
unfolding computed
dear_pair =
    held
    (record {
      scale = 1;
      constant = 0;
      sizes = 1 ∷ 1 ∷ [];
      firsts = 0 ∷ [];
      seconds = 1 ∷ [];
      loaded_choices = [];
      held_choices = [];
      loaded_entries = ((1000000 ∷ []) ∷ []) ∷ [];
      held_entries = ((1000000 ∷ []) ∷ []) ∷ [];
    })
    refl

-- clauses that charge choice 1 of one train the greatest cost
unfoldable pub charged : Block
unfolding computed without_pairs
charged = held (without_pairs 1 (2 ∷ []) ((0 ∷ 1000000 ∷ []) ∷ []) 0 ((0 ∷ 1000000 ∷ []) ∷ [])) refl

-- clauses that charge one pair of choices the greatest cost
unfoldable pub charged_pair : Block
unfolding computed two_with
charged_pair = held (two_with (0 ∷ 0 ∷ []) ((0 ∷ 0 ∷ []) ∷ (0 ∷ 1000000 ∷ []) ∷ [])) refl

unfoldable pub load_table : List Row
load_table =
    -- a line's length: the greatest, of zeros, which is no kind
    declined_long fresh "" 19836 "FF 03"
    -- n: the greatest, searched with as many tries as it has trains, and with one try less; one more
    ∷ row fresh
    "01 18 0001 01 01 01 01 01 01 01 01 01 01 01 01 01 01 01 01 01 01 01 01 01 01 01 01 000000 000000 000000 000000 000000 000000 000000 000000 000000 000000 000000 000000 000000 000000 000000 000000 000000 000000 000000 000000 000000 000000 000000 000000 00"
    "81 000000000000 000000000000"
    many
    ∷ row many "06 00000018" "86 01 00000018 000000000000 00 00 00 00 00 00 00 00 00 00 00 00 00 00 00 00 00 00 00 00 00 00 00 00" many
    ∷ row many "06 00000017" "86 00 00000017 FFFFFFFFFFFF FF FF FF FF FF FF FF FF FF FF FF FF FF FF FF FF FF FF FF FF FF FF FF FF" many
    ∷ declined fresh "01 19" "FF 06"
    -- m: the greatest, of which the first pair is not there, and one more
    ∷ declined fresh "01 01 0001 01 000000 30" "FF 05"
    ∷ declined fresh "01 01 0001 01 000000 31" "FF 06"
    -- s, and a cost: the greatest; s one more, and one less than the least
    ∷ row fresh "01 01 03E8 01 0F4240 00" "81 000000000000 000000000000" dearest
    ∷ declined fresh "01 01 03E9" "FF 06"
    ∷ declined fresh "01 01 0000" "FF 06"
    -- a size: one less than the least
    ∷ declined fresh "01 01 0001 00" "FF 06"
    -- the number before that of a forbidden choice; the greatest cost of a pair, one more, and the number before that of a forbidden pair of choices
    ∷ declined fresh "01 01 0001 01 FFFFFE" "FF 07"
    ∷ row fresh "01 02 0001 01 01 000000 000000 01 00 01 0F4240" "81 000000000000 000000000000" dear_pair
    ∷ declined fresh "01 02 0001 01 01 000000 000000 01 00 01 0F4241" "FF 07"
    ∷ declined fresh "01 02 0001 01 01 000000 000000 01 00 01 FFFFFE" "FF 07"
    -- a pair: i equal to j, i above j, j equal to n; then the last pair again, and two that come before the last
    ∷ declined fresh "01 02 0001 01 01 000000 000000 01 01 01" "FF 08"
    ∷ declined fresh "01 02 0001 01 01 000000 000000 01 01 00" "FF 08"
    ∷ declined fresh "01 02 0001 01 01 000000 000000 01 00 02" "FF 08"
    ∷ declined fresh "01 03 0001 01 01 01 000000 000000 000000 02 00 01 000000 00 01" "FF 08"
    ∷ declined fresh "01 03 0001 01 01 01 000000 000000 000000 02 00 02 000000 00 01" "FF 08"
    ∷ declined fresh "01 03 0001 01 01 01 000000 000000 000000 02 01 02 000000 00 02" "FF 08"
    ∷ []

unfoldable pub clause_table : List Row
clause_table =
    -- n: the greatest, of which the next field is not there, and one less than the least
    declined fresh "09 18" "FF 05"
    ∷ declined fresh "09 00" "FF 06"
    -- s: the same
    ∷ declined fresh "09 01 03E8" "FF 05"
    ∷ declined fresh "09 01 0000" "FF 06"
    -- a count: one that takes its second byte, and the greatest, of which the first clause is not there; the greatest that two bytes hold
    ∷ declined fresh "09 01 0001 0100" "FF 05"
    ∷ declined fresh "09 01 0001 01F4" "FF 05"
    ∷ declined fresh "09 01 0001 FFFF" "FF 06"
    -- a literal of the last train, either way, and of the one behind it, as the first and as the second
    ∷ declined fresh "09 02 0001 0001 02 00" "FF 05"
    ∷ declined fresh "09 02 0001 0001 FE 00" "FF 05"
    ∷ declined fresh "09 02 0001 0001 03 00" "FF 13"
    ∷ declined fresh "09 02 0001 0001 FD 00" "FF 13"
    ∷ declined fresh "09 02 0001 0001 01 03" "FF 13"
    -- the greatest weight, and sums as great, of a choice and of a pair
    ∷ row fresh "09 01 0001 0001 01 00 0F4240" "89 000000000000 000000000000" charged
    ∷ row fresh "09 01 0001 0002 01 00 0F423F 01 00 000001" "89 000000000000 000000000000" charged
    ∷ row fresh "09 02 0001 0002 01 02 0F423F 02 01 000001" "89 000000000000 000000000000" charged_pair
    -- 48 pairs, so that what is declined is a choice one above 1,000,000
    ∷ declined fresh
    "09 18 0001 0032 01 02 000001 01 03 000001 01 04 000001 01 05 000001 01 06 000001 01 07 000001 01 08 000001 01 09 000001 01 0A 000001 01 0B 000001 01 0C 000001 01 0D 000001 01 0E 000001 01 0F 000001 01 10 000001 01 11 000001 01 12 000001 01 13 000001 01 14 000001 01 15 000001 01 16 000001 01 17 000001 01 18 000001 02 03 000001 02 04 000001 02 05 000001 02 06 000001 02 07 000001 02 08 000001 02 09 000001 02 0A 000001 02 0B 000001 02 0C 000001 02 0D 000001 02 0E 000001 02 0F 000001 02 10 000001 02 11 000001 02 12 000001 02 13 000001 02 14 000001 02 15 000001 02 16 000001 02 17 000001 02 18 000001 03 04 000001 03 05 000001 03 06 000001 01 00 0F4240 01 00 000001"
    "FF 0A"
    ∷ []

pub load_table_right : Right load_table
unfolding computed fresh without_pairs many dearest dear_pair load_table
load_table_right = right_by load_table refl

pub clause_table_right : Right clause_table
unfolding computed fresh without_pairs charged two_with charged_pair clause_table
clause_table_right = right_by clause_table refl

-- ---- J

-- J with 1,000,000 points added to choice 1 of train 0
unfoldable pub j_filled : Block
unfolding computed two_with
j_filled = held (two_with (2 ∷ 1000000 ∷ []) ((1 ∷ 0 ∷ []) ∷ (3 ∷ 2 ∷ []) ∷ [])) refl

unfoldable pub j_table : List Row
j_table =
    -- add: the greatest points, which H may reach, and one more; one more than H may reach, by an addition to 2 and to 1,000,000; a choice behind the last
    row j "02 00 01 0F4240" "82 000000000000 000000000000" j_filled
    ∷ declined j "02 00 01 0F4241" "FF 07"
    ∷ declined j "02 00 00 0F423F" "FF 0A"
    ∷ declined j_filled "02 00 01 000001" "FF 0A"
    ∷ declined j "02 00 02 000001" "FF 09"
    -- a lift: −10^12, 10^12 and one more, the next field not being there; −10^12 − 1 is with the refusals
    ∷ declined j "03 FF172B5AF000" "FF 05"
    ∷ declined j "03 00E8D4A51000" "FF 05"
    ∷ declined j "03 00E8D4A51001" "FF 0B"
    -- a move: the same, and −10^12 − 1
    ∷ declined j "03 000000000000 000000000000 FF172B5AF000" "FF 05"
    ∷ declined j "03 000000000000 000000000000 00E8D4A51000" "FF 05"
    ∷ declined j "03 000000000000 000000000000 00E8D4A51001" "FF 0B"
    ∷ declined j "03 000000000000 000000000000 FF172B5AEFFF" "FF 0B"
    -- W: the greatest, all of it on plan 0 1, and one more
    ∷ row j "05 0186A0 0186A0 000000 000000 0186A0 000000 0186A0 000000 000000" "85 00 0000000000030D40 0186A0" j
    ∷ declined j "05 0186A1" "FF 0D"
    -- a budget: the greatest, and one more; just used up, and one try less; as many tries as trains
    ∷ row j "06 00989680" "86 01 00000006 000000000002 00 01" j
    ∷ declined j "06 00989681" "FF 0F"
    ∷ row j "06 00000006" "86 01 00000006 000000000002 00 01" j
    ∷ row j "06 00000005" "86 00 00000005 000000000002 00 01" j
    ∷ row j "06 00000002" "86 00 00000002 000000000003 00 00" j
    ∷ []

pub j_table_right : Right j_table
unfolding computed j_with j two_with j_filled j_table
j_table_right = right_by j_table refl

-- ---- forbidden entries, and costs at L

-- a pair of one permitted entry, with this cost in parts, whose first train has no permitted choice
unfoldable pub joint_with : ℕ → Written
joint_with entry =
    record {
      scale = 1;
      constant = 0;
      sizes = 1 ∷ 1 ∷ [];
      firsts = 0 ∷ [];
      seconds = 1 ∷ [];
      loaded_choices = (closed ∷ []) ∷ [];
      held_choices = (closed ∷ []) ∷ [];
      loaded_entries = [];
      held_entries = ((entry ∷ []) ∷ []) ∷ [];
    }

unfoldable pub joint : Block
unfolding computed joint_with
joint = held (joint_with 0) refl

unfoldable pub joint_full : Block
unfolding computed joint_with
joint_full = held (joint_with 72000000000) refl

-- one train with this cost in points, and in parts
unfoldable pub raised_with : ℕ → ℕ → Written
unfolding without_pairs
raised_with points parts = without_pairs 1 (1 ∷ []) ((points ∷ []) ∷ []) 0 ((parts ∷ []) ∷ [])

-- L − 1 parts, and L after an addition
unfoldable pub below_l : Block
unfolding computed raised_with
below_l = held (raised_with 0 71999999999) refl

unfoldable pub at_l : Block
unfolding computed raised_with
at_l = held (raised_with 1 72000000000) refl

unfoldable pub forbidden_table : List Row
forbidden_table =
    -- the greatest points for a forbidden choice, and one more
    row d "02 00 01 0F4240" "82 000000000000 000000000000" d
    ∷ declined d "02 00 01 0F4241" "FF 07"
    -- 14 where the permitted weights alone would agree: of choices, and of the first pair's entries
    ∷ declined d "05 000001 000001 000001 000001 000000 000001 000000 000000 000000" "FF 0E"
    ∷ declined clique
    "05 000002 000001 000001 000001 000001 000001 000001 000001 000001 000001 000000 000000 000001 000001 000000 000000 000001 000001 000000"
    "FF 0E"
    -- 18 for a choice
    ∷ declined d "05 000001 000000 000001 000001 000000 000000 000000 000001 000000" "FF 12"
    -- a search without a plan: the budget just used up, and one try less
    ∷ row clique "06 0000000A" "86 02 0000000A FFFFFFFFFFFF FF FF FF" clique
    ∷ row clique "06 00000009" "86 00 00000009 FFFFFFFFFFFF FF FF FF" clique
    -- the constant: one above L; from L down to 0, and one more
    ∷ declined shut "03 0010C388D001" "FF 0C"
    ∷ row shut_lifted "03 FFEF3C773000" "83 000000000000 000000000000" shut
    ∷ declined shut_lifted "03 FFEF3C772FFF" "FF 0C"
    -- lifts and moves of 10^12 and −10^12 that come to nothing
    ∷ row apart "03 00E8D4A51000 FF172B5AF000 00E8D4A51000 FF172B5AF000" "83 000000000000 000000000000" apart
    -- a choice by a move: one above L, and one below 0
    ∷ declined apart "03 000000000000 000000000000 0010C388D001 000000000000" "FF 0C"
    ∷ declined apart "03 000000000000 000000000000 FFFFFFFFFFFF 000000000000" "FF 0C"
    -- a choice by an addition: L, and one above
    ∷ row below_l "02 00 00 000001" "82 000000000000 000000000000" at_l
    ∷ declined below_l "02 00 00 000002" "FF 0C"
    -- a pair's entry by a move: L, one above, and one below 0
    ∷ row joint "03 000000000000 000000000000 FFEF3C773000 000000000000" "83 000000000000 000000000000" joint_full
    ∷ declined joint "03 000000000000 000000000000 FFEF3C772FFF 000000000000" "FF 0C"
    ∷ declined joint "03 000000000000 000000000000 000000000001 000000000000" "FF 0C"
    ∷ []

pub forbidden_table_right : Right forbidden_table
unfolding computed clique d shut_with shut shut_lifted apart joint_with joint joint_full raised_with below_l at_l forbidden_table
forbidden_table_right = right_by forbidden_table refl
