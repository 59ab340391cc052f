-- Document 02, change 4: directional rounds of a branch line, which tightening leaves as it is, of J, of studies without a pair, and of a study whose last train has two partners of lower number.
-- Replies and blocks were worked out by hand from the documents' rules, and are the reference implementation's too.
use mathlib.Core.Path.{refl}
use mathlib.Core.List.{List, [], ◌∷◌}
use Prim.Native.Nat.{ℕ}
use lib.ListN.{take}
use Rattle.tables.specs.WellFormed.{fresh_block}
use Rattle.cases.specs.Written.{Written}
use Rattle.cases.specs.Calls.{Block, held, Row, call, row, declined, Right}
use Rattle.cases.specs.Computed.{computed}
use Rattle.cases.specs.Studies.{fresh, j_with, j, without_pairs}
use Rattle.cases.specs.Sessions.{gets, handed, Session}
use Rattle.cases.proofs.Rows.{right_by}
use Rattle.cases.proofs.Marked.{lifted}

-- the branch line with so many parts a point, this constant, and these costs in parts
unfoldable pub branch_with : ℕ → ℕ → List (List ℕ) → List (List ℕ) → Written
branch_with s c0 choices entries =
    record {
      scale = s;
      constant = c0;
      sizes = 2 ∷ 2 ∷ [];
      firsts = 0 ∷ [];
      seconds = 1 ∷ [];
      loaded_choices = (1 ∷ 0 ∷ []) ∷ (0 ∷ 1 ∷ []) ∷ [];
      held_choices = choices;
      loaded_entries = ((0 ∷ 0 ∷ []) ∷ (1 ∷ 0 ∷ []) ∷ []) ∷ [];
      held_entries = entries ∷ [];
    }

unfoldable pub branch : Block
unfolding computed branch_with
branch = held (branch_with 1 0 ((1 ∷ 0 ∷ []) ∷ (0 ∷ 1 ∷ []) ∷ []) ((0 ∷ 0 ∷ []) ∷ (1 ∷ 0 ∷ []) ∷ [])) refl

-- the pair takes 0 and 1 from train 1 into its columns, which leaves 0 1 and 1 1; rows give 0 and 1 to train 0; then 1 goes from train 0 to the constant
unfoldable pub branch_round : Block
unfolding computed branch_with
branch_round = held (branch_with 1 1 ((0 ∷ 0 ∷ []) ∷ (0 ∷ 0 ∷ []) ∷ []) ((0 ∷ 1 ∷ []) ∷ (0 ∷ 0 ∷ []) ∷ [])) refl

-- the same with two parts a point
unfoldable pub halves : Block
unfolding computed branch_with
halves = held (branch_with 2 0 ((2 ∷ 0 ∷ []) ∷ (0 ∷ 2 ∷ []) ∷ []) ((0 ∷ 0 ∷ []) ∷ (2 ∷ 0 ∷ []) ∷ [])) refl

unfoldable pub halves_round : Block
unfolding computed branch_with
halves_round = held (branch_with 2 2 ((0 ∷ 0 ∷ []) ∷ (0 ∷ 0 ∷ []) ∷ []) ((0 ∷ 2 ∷ []) ∷ (0 ∷ 0 ∷ []) ∷ [])) refl

-- one train with three parts a point, which lifts 6
unfoldable pub single : Block
unfolding computed without_pairs
single = held (without_pairs 3 (2 ∷ []) ((5 ∷ 2 ∷ []) ∷ []) 0 ((15 ∷ 6 ∷ []) ∷ [])) refl

unfoldable pub single_round : Block
unfolding computed without_pairs
single_round = held (without_pairs 3 (2 ∷ []) ((5 ∷ 2 ∷ []) ∷ []) 6 ((9 ∷ 0 ∷ []) ∷ [])) refl

-- two trains, which lift 3 and 2
unfoldable pub unpaired : Block
unfolding computed without_pairs
unpaired = held (without_pairs 1 (2 ∷ 1 ∷ []) ((5 ∷ 2 ∷ []) ∷ (3 ∷ []) ∷ []) 0 ((5 ∷ 2 ∷ []) ∷ (3 ∷ []) ∷ [])) refl

unfoldable pub unpaired_round : Block
unfolding computed without_pairs
unpaired_round = held (without_pairs 1 (2 ∷ 1 ∷ []) ((5 ∷ 2 ∷ []) ∷ (3 ∷ []) ∷ []) 5 ((3 ∷ 0 ∷ []) ∷ (0 ∷ []) ∷ [])) refl

-- trains 0 and 1 are both partners of train 2: the study with this constant, and these costs in parts
unfoldable pub partners : ℕ → List (List ℕ) → List (List (List ℕ)) → Written
partners c0 choices entries =
    record {
      scale = 1;
      constant = c0;
      sizes = 2 ∷ 2 ∷ 2 ∷ [];
      firsts = 0 ∷ 1 ∷ [];
      seconds = 2 ∷ 2 ∷ [];
      loaded_choices = (1 ∷ 2 ∷ []) ∷ (2 ∷ 2 ∷ []) ∷ (2 ∷ 0 ∷ []) ∷ [];
      held_choices = choices;
      loaded_entries = ((1 ∷ 2 ∷ []) ∷ (2 ∷ 0 ∷ []) ∷ []) ∷ ((2 ∷ 2 ∷ []) ∷ (0 ∷ 1 ∷ []) ∷ []) ∷ [];
      held_entries = entries;
    }

unfoldable pub two : Block
unfolding computed partners
two =
    held (partners 0 ((1 ∷ 2 ∷ []) ∷ (2 ∷ 2 ∷ []) ∷ (2 ∷ 0 ∷ []) ∷ [])
    (((1 ∷ 2 ∷ []) ∷ (2 ∷ 0 ∷ []) ∷ []) ∷ ((2 ∷ 2 ∷ []) ∷ (0 ∷ 1 ∷ []) ∷ []) ∷ [])) refl

-- the first pair takes 2 and 0 from train 2, which leaves 3 2 and 4 0; its rows give 2 and 0 to train 0. The second finds nothing to take; its rows give 2 and 0 to train 1. Then 2 goes from train 1
-- and 2 from train 0 to the constant
unfoldable pub two_round : Block
unfolding computed partners
two_round =
    held (partners 4 ((1 ∷ 0 ∷ []) ∷ (2 ∷ 0 ∷ []) ∷ (0 ∷ 0 ∷ []) ∷ [])
    (((1 ∷ 0 ∷ []) ∷ (4 ∷ 0 ∷ []) ∷ []) ∷ ((0 ∷ 0 ∷ []) ∷ (0 ∷ 1 ∷ []) ∷ []) ∷ [])) refl

unfoldable pub table : List Row
table =
    -- the branch line: load; tighten, which finds nothing; a round, after which the bound is the least cost; search, which ends at the bound; a second round, which changes nothing
    row fresh "01 02 0001 02 02 000001 000000 000000 000001 01 00 01 000000 000000 000001 000000" "81 000000000000 000000000000" branch
    ∷ row branch "04" "84 000000000000 000000000000" branch
    ∷ row branch "08" "88 000000000001 000000000001" branch_round
    ∷ row branch_round "06 000003E8" "86 01 00000002 000000000001 00 00" branch_round
    ∷ row branch_round "08" "88 000000000001 000000000001" branch_round
    -- two parts a point: 2 parts publish 1 point
    ∷ row fresh "01 02 0002 02 02 000001 000000 000000 000001 01 00 01 000000 000000 000001 000000" "81 000000000000 000000000000" halves
    ∷ row halves "08" "88 000000000002 000000000001" halves_round
    -- J: rows give 0 and 2 to train 0, and 2 goes from it to the constant
    ∷ row j "08" "88 000000000002 000000000002" lifted
    ∷ row lifted "06 0000000A" "86 01 00000003 000000000002 00 01" lifted
    -- 'train 0 lifts last': of a single train that is all
    ∷ row fresh "01 01 0003 02 000005 000002 00" "81 000000000000 000000000000" single
    ∷ row single "08" "88 000000000006 000000000002" single_round
    -- no pair: each train lifts its least
    ∷ row fresh "01 02 0001 02 01 000005 000002 000003 00" "81 000000000000 000000000000" unpaired
    ∷ row unpaired "08" "88 000000000005 000000000005" unpaired_round
    -- two partners of lower number: the bound may stay below the least cost, which is 5
    ∷ row fresh
    "01 03 0001 02 02 02 000001 000002 000002 000002 000002 000000 02 00 02 000001 000002 000002 000000 01 02 000002 000002 000000 000001"
    "81 000000000000 000000000000"
    two
    ∷ row two "08" "88 000000000004 000000000004" two_round
    ∷ row two_round "06 000003E8" "86 01 0000000C 000000000005 01 01 01" two_round
    -- a fresh block has no study, and a round has no fields
    ∷ declined fresh "08" "FF04"
    ∷ declined j "0800" "FF05"
    ∷ []

pub table_right : Right table
unfolding computed fresh j_with j lifted branch_with branch branch_round halves halves_round without_pairs single single_round unpaired unpaired_round partners two two_round table
table_right = right_by table refl

-- its first five rows are one list of calls from a fresh block
pub session : Session fresh_block (take 5 table)
unfolding gets handed call row fresh table
session = refl
