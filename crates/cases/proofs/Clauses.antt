-- Document 02, change 7: studies written as clauses, on a fresh block and over J, with the saves after them, and each way in which such a line is declined. Replies and blocks were worked out by hand
-- from the documents' rules, and are the reference implementation's too.
use mathlib.Core.Path.{refl}
use mathlib.Core.List.{List, [], ◌∷◌}
use Prim.Native.Nat.{ℕ}
use lib.ListN.{take}
use Rattle.tables.specs.WellFormed.{fresh_block}
use Rattle.cases.specs.Written.{text, Written}
use Rattle.cases.specs.Calls.{Block, held, Row, call, row, declined, Right}
use Rattle.cases.specs.Computed.{computed}
use Rattle.cases.specs.Studies.{fresh, j_with, j}
use Rattle.cases.specs.Sessions.{gets, handed, Session}
use Rattle.cases.proofs.Rows.{right_by}

-- trains 0 and 1 with one part a point, the costs of train 0 and of the pair
unfoldable pub two_with : List ℕ → List (List ℕ) → Written
two_with choices entries =
    record {
      scale = 1;
      constant = 0;
      sizes = 2 ∷ 2 ∷ [];
      firsts = 0 ∷ [];
      seconds = 1 ∷ [];
      loaded_choices = choices ∷ (0 ∷ 0 ∷ []) ∷ [];
      held_choices = choices ∷ (0 ∷ 0 ∷ []) ∷ [];
      loaded_entries = entries ∷ [];
      held_entries = entries ∷ [];
    }

-- clauses 1 ∨ 2 of weight 5, −1 of weight 2 and −2 ∨ 1 of weight 1: they fail at choices 1 and 1, at choice 0 of train 0, and at choices 1 and 0
unfoldable pub three : Block
unfolding computed two_with
three = held (two_with (2 ∷ 0 ∷ []) ((0 ∷ 0 ∷ []) ∷ (1 ∷ 5 ∷ []) ∷ [])) refl

-- 1 ∨ 2 of weight 5 and 2 ∨ 1 of weight 7: 'Costs on the same entry add up'
unfoldable pub twice : Block
unfolding computed two_with
twice = held (two_with (0 ∷ 0 ∷ []) ((0 ∷ 0 ∷ []) ∷ (0 ∷ 12 ∷ []) ∷ [])) refl

-- 3 ∨ −1 of weight 0: a pair all the same
unfoldable pub weightless : Block
unfolding computed
weightless =
    held
    (record {
      scale = 1;
      constant = 0;
      sizes = 2 ∷ 2 ∷ 2 ∷ [];
      firsts = 0 ∷ [];
      seconds = 2 ∷ [];
      loaded_choices = [];
      held_choices = [];
      loaded_entries = [];
      held_entries = [];
    })
    refl

-- 3 ∨ −2 of weight 4, −1 ∨ 3 of weight 6 and 2 ∨ 1 of weight 8, two parts a point: 'pairs come out ascending', the smaller train first
unfoldable pub turned : Block
unfolding computed
turned =
    held
    (record {
      scale = 2;
      constant = 0;
      sizes = 2 ∷ 2 ∷ 2 ∷ [];
      firsts = 0 ∷ 0 ∷ 1 ∷ [];
      seconds = 1 ∷ 2 ∷ 2 ∷ [];
      loaded_choices = [];
      held_choices = [];
      loaded_entries = ((0 ∷ 0 ∷ []) ∷ (0 ∷ 8 ∷ []) ∷ []) ∷ ((0 ∷ 6 ∷ []) ∷ []) ∷ ((0 ∷ 4 ∷ []) ∷ []) ∷ [];
      held_entries = ((0 ∷ 0 ∷ []) ∷ (0 ∷ 16 ∷ []) ∷ []) ∷ ((0 ∷ 12 ∷ []) ∷ []) ∷ ((0 ∷ 8 ∷ []) ∷ []) ∷ [];
    })
    refl

-- one train, and no clause
unfoldable pub empty : Block
unfolding computed
empty = held (record { scale = 1; constant = 0; sizes = 2 ∷ []; firsts = []; seconds = []; loaded_choices = []; held_choices = []; loaded_entries = []; held_entries = [] }) refl

unfoldable pub table : List Row
table =
    -- 'it loads', on a fresh block too; the save after it; a search, whose plan fails the clause of weight 1 alone
    row fresh "09 02 0001 0003 01 02 000005 FF 00 000002 FE 01 000001" "89 000000000000 000000000000" three
    ∷ row three "07" "01 02 0001 02 02 000002 000000 000000 000000 01 00 01 000000 000000 000001 000005" three
    ∷ row three "06 0000000A" "86 01 00000006 000000000001 01 00" three
    -- over a study it replaces all
    ∷ row j "09 02 0001 0002 01 02 000005 02 01 000007" "89 000000000000 000000000000" twice
    ∷ row twice "07" "01 02 0001 02 02 000000 000000 000000 000000 01 00 01 000000 000000 000000 00000C" twice
    ∷ row three "09 03 0001 0001 03 FF 000000" "89 000000000000 000000000000" weightless
    ∷ call 80 weightless (text "07") "01 03 0001 02 02 02 000000 000000 000000 000000 000000 000000 01 00 02 000000 000000 000000 000000" weightless
    ∷ row weightless "09 03 0002 0003 03 FE 000004 FF 03 000006 02 01 000008" "89 000000000000 000000000000" turned
    ∷ call 136 turned (text "07")
    "01 03 0002 02 02 02 000000 000000 000000 000000 000000 000000 03 00 01 000000 000000 000000 000008 00 02 000000 000006 000000 000000 01 02 000000 000004 000000 000000"
    turned
    -- no clause, and one above 500, of which none is looked for
    ∷ row turned "09 01 0001 0000" "89 000000000000 000000000000" empty
    ∷ declined three "09 01 0001 01F5" "FF06"
    -- n and s are judged as a load's
    ∷ declined fresh "09 19" "FF06"
    ∷ declined fresh "09 01 03E9" "FF06"
    ∷ declined fresh "09" "FF05"
    -- 19 behind both literals and before the weight: a first literal of 0, −128, an absent train, one train twice
    ∷ declined three "09 02 0001 0001 00 01" "FF13"
    ∷ declined three "09 02 0001 0001 80 00 000001" "FF13"
    ∷ declined three "09 02 0001 0001 01 FD FFFFFF" "FF13"
    ∷ declined fresh "09 02 0001 0001 01 FF 000001" "FF13"
    ∷ declined fresh "09 02 0001 0002 01 02 000001 02 02 000001" "FF13"
    -- a second literal that is missing, and a byte left over
    ∷ declined three "09 02 0001 0001 00" "FF05"
    ∷ declined three "09 02 0001 0001 01 02 000001 00" "FF05"
    -- 'A weight of FFFFFF is 7', and one above 1,000,000
    ∷ declined three "09 02 0001 0001 01 02 FFFFFF" "FF07"
    ∷ declined three "09 02 0001 0001 01 02 0F4241" "FF07"
    -- 10: a choice, and a pair's entry, one above 1,000,000
    ∷ declined three "09 02 0001 0002 01 00 0F4240 01 00 000001" "FF0A"
    ∷ declined three "09 02 0001 0002 01 02 0F4240 02 01 000001" "FF0A"
    -- 49 pairs; with a byte left over; with an entry above 1,000,000 too
    ∷ declined three
    "09 18 0001 0031 01 02 000001 01 03 000001 01 04 000001 01 05 000001 01 06 000001 01 07 000001 01 08 000001 01 09 000001 01 0A 000001 01 0B 000001 01 0C 000001 01 0D 000001 01 0E 000001 01 0F 000001 01 10 000001 01 11 000001 01 12 000001 01 13 000001 01 14 000001 01 15 000001 01 16 000001 01 17 000001 01 18 000001 02 03 000001 02 04 000001 02 05 000001 02 06 000001 02 07 000001 02 08 000001 02 09 000001 02 0A 000001 02 0B 000001 02 0C 000001 02 0D 000001 02 0E 000001 02 0F 000001 02 10 000001 02 11 000001 02 12 000001 02 13 000001 02 14 000001 02 15 000001 02 16 000001 02 17 000001 02 18 000001 03 04 000001 03 05 000001 03 06 000001 03 07 000001"
    "FF14"
    ∷ declined three
    "09 18 0001 0031 01 02 000001 01 03 000001 01 04 000001 01 05 000001 01 06 000001 01 07 000001 01 08 000001 01 09 000001 01 0A 000001 01 0B 000001 01 0C 000001 01 0D 000001 01 0E 000001 01 0F 000001 01 10 000001 01 11 000001 01 12 000001 01 13 000001 01 14 000001 01 15 000001 01 16 000001 01 17 000001 01 18 000001 02 03 000001 02 04 000001 02 05 000001 02 06 000001 02 07 000001 02 08 000001 02 09 000001 02 0A 000001 02 0B 000001 02 0C 000001 02 0D 000001 02 0E 000001 02 0F 000001 02 10 000001 02 11 000001 02 12 000001 02 13 000001 02 14 000001 02 15 000001 02 16 000001 02 17 000001 02 18 000001 03 04 000001 03 05 000001 03 06 000001 03 07 000001 00"
    "FF05"
    ∷ declined three
    "09 18 0001 0032 01 02 000001 01 03 000001 01 04 000001 01 05 000001 01 06 000001 01 07 000001 01 08 000001 01 09 000001 01 0A 000001 01 0B 000001 01 0C 000001 01 0D 000001 01 0E 000001 01 0F 000001 01 10 000001 01 11 000001 01 12 000001 01 13 000001 01 14 000001 01 15 000001 01 16 000001 01 17 000001 01 18 000001 02 03 000001 02 04 000001 02 05 000001 02 06 000001 02 07 000001 02 08 000001 02 09 000001 02 0A 000001 02 0B 000001 02 0C 000001 02 0D 000001 02 0E 000001 02 0F 000001 02 10 000001 02 11 000001 02 12 000001 02 13 000001 02 14 000001 02 15 000001 02 16 000001 02 17 000001 02 18 000001 03 04 000001 03 05 000001 03 06 000001 03 07 000001 01 02 0F4240"
    "FF14"
    ∷ []

pub table_right : Right table
unfolding computed fresh j_with j two_with three twice weightless turned empty table
table_right = right_by table refl

-- its first three rows are one list of calls from a fresh block
pub session : Session fresh_block (take 3 table)
unfolding gets handed call row fresh table
session = refl
