-- Document 02, change 11: records of plans by lines of kinds 0E, 0C and 0D, in tight buffers too. None of them changes the block. Replies are the document's or the reference implementation's.
use mathlib.Core.Path.{refl}
use mathlib.Core.List.{List, [], ◌∷◌, ◌++◌}
use Prim.Native.Nat.{ℕ}
use Prim.Native.String.{String}
use Rattle.frames.specs.Text.{zeros}
use Rattle.theory.specs.Lists.{list_of}
use Rattle.cases.specs.Written.{text, closed, Written}
use Rattle.cases.specs.Calls.{Block, held, held_in, Row, row, declined, Right}
use Rattle.cases.specs.Computed.{computed}
use Rattle.cases.specs.Studies.{fresh, j_with, j, without_pairs}
use Rattle.cases.proofs.Rows.{right_by}

-- J tightened: the constant is 2
unfoldable pub j_tight : Block
unfolding computed j_with
j_tight = held (j_with 2 ((0 ∷ 0 ∷ []) ∷ (1 ∷ 0 ∷ []) ∷ []) ((0 ∷ 0 ∷ []) ∷ (0 ∷ 0 ∷ []) ∷ [])) refl

-- J whose constant is 9, above its plan's cost: no list of lines from a fresh block leaves it
unfoldable pub j_above : Block
unfolding computed j_with
j_above = held (j_with 9 ((2 ∷ 0 ∷ []) ∷ (0 ∷ 0 ∷ []) ∷ []) ((1 ∷ 0 ∷ []) ∷ (3 ∷ 2 ∷ []) ∷ [])) refl

-- J tightened, and 5 points added to choice 1 of train 1
unfoldable pub j_raised : Block
unfolding computed
j_raised =
    held
    (record {
      scale = 1;
      constant = 2;
      sizes = 2 ∷ 2 ∷ [];
      firsts = 0 ∷ [];
      seconds = 1 ∷ [];
      loaded_choices = (2 ∷ 0 ∷ []) ∷ (0 ∷ 5 ∷ []) ∷ [];
      held_choices = (0 ∷ 0 ∷ []) ∷ (1 ∷ 5 ∷ []) ∷ [];
      loaded_entries = ((1 ∷ 0 ∷ []) ∷ (3 ∷ 2 ∷ []) ∷ []) ∷ [];
      held_entries = ((0 ∷ 0 ∷ []) ∷ (0 ∷ 0 ∷ []) ∷ []) ∷ [];
    })
    refl

-- a tariff of 5 points, with a forbidden choice and a forbidden pair of choices, and this constant and these costs in parts
unfoldable pub fives_with : ℕ → List (List ℕ) → List (List ℕ) → Written
fives_with c0 choices entries =
    record {
      scale = 1;
      constant = c0;
      sizes = 2 ∷ 2 ∷ [];
      firsts = 0 ∷ [];
      seconds = 1 ∷ [];
      loaded_choices = (10 ∷ closed ∷ []) ∷ (10 ∷ 10 ∷ []) ∷ [];
      held_choices = choices;
      loaded_entries = ((5 ∷ 15 ∷ []) ∷ (closed ∷ 5 ∷ []) ∷ []) ∷ [];
      held_entries = entries ∷ [];
    }

-- its constant is 25
unfoldable pub fives_tight : Block
unfolding computed fives_with
fives_tight = held (fives_with 25 ((0 ∷ closed ∷ []) ∷ (0 ∷ 10 ∷ []) ∷ []) ((0 ∷ 0 ∷ []) ∷ (closed ∷ 0 ∷ []) ∷ [])) refl

-- its constant is 7, the bound 10
unfoldable pub fives_seven : Block
unfolding computed fives_with
fives_seven = held (fives_with 7 ((3 ∷ closed ∷ []) ∷ (10 ∷ 10 ∷ []) ∷ []) ((5 ∷ 15 ∷ []) ∷ (closed ∷ 5 ∷ []) ∷ [])) refl

-- clauses 1 ∨ 2 of weight 5, −1 of weight 2 and −2 ∨ 1 of weight 1, with train 1 first
unfoldable pub turned_clauses : Block
unfolding computed
turned_clauses =
    held_in (1 ∷ 0 ∷ [])
    (record {
      scale = 1;
      constant = 0;
      sizes = 2 ∷ 2 ∷ [];
      firsts = 0 ∷ [];
      seconds = 1 ∷ [];
      loaded_choices = (2 ∷ 0 ∷ []) ∷ (0 ∷ 0 ∷ []) ∷ [];
      held_choices = (2 ∷ 0 ∷ []) ∷ (0 ∷ 0 ∷ []) ∷ [];
      loaded_entries = ((0 ∷ 0 ∷ []) ∷ (1 ∷ 5 ∷ []) ∷ []) ∷ [];
      held_entries = ((0 ∷ 0 ∷ []) ∷ (1 ∷ 5 ∷ []) ∷ []) ∷ [];
    })
    refl

-- 24 trains of one choice each, which costs 1
unfoldable pub crowd : Block
unfolding computed without_pairs
crowd = held (without_pairs 1 (list_of 24 (λ i. 1)) (list_of 24 (λ i. 1 ∷ [])) 0 (list_of 24 (λ i. 1 ∷ []))) refl

-- a line, that many zeros, and its end
unfoldable pub long_line : String → ℕ → String → List ℕ
unfolding computed
long_line from n end = text from ++ zeros n ++ text end

-- a line on a block that stays, with a buffer of so many characters: its reply, and none
unfoldable pub shown_long : ℕ → Block → List ℕ → List ℕ → Row
shown_long room b l reply = record { room = room; on = b; line = l; reply = reply; leaves = b }

unfoldable pub silent_long : ℕ → Block → List ℕ → Row
silent_long room b l = shown_long room b l []

unfoldable pub table : List Row
table =
    declined fresh "0E 00 01" "FF 04"
    -- '0E writes one (8E, record), with the published bound', and the plan's total in H
    ∷ row j "0E 00 01" "8E 02 00 01 000000000000 000000000002" j
    ∷ row j_tight "0E 00 01" "8E 02 00 01 000000000002 000000000002" j_tight
    ∷ row j_tight "0E 00 00" "8E 02 00 00 000000000002 000000000003" j_tight
    -- 5, then 22
    ∷ declined j_tight "0E 00" "FF 05"
    ∷ declined j_tight "0E 00 01 00" "FF 05"
    ∷ declined j_tight "0E 00 02" "FF 16"
    ∷ declined j_tight "0E 02 00" "FF 16"
    -- '0C reads one for screens', whatever stands behind the choices
    ∷ row j_tight "0C 02 00 01 000000000002 000000000002" "8C 02 00 01" j_tight
    ∷ row j_tight "0C 02 00 01 FFFFFFFFFFFF 123456789ABC" "8C 02 00 01" j_tight
    ∷ declined j_tight "0D 02 00 01 FFFFFFFFFFFF 123456789ABC" "FF 17"
    -- '0D reads one for planners'; 23 where the cost is not the plan's, or the bound above it
    ∷ row j_tight "0D 02 00 01 000000000002 000000000002" "8D 02 00 01 000000000002 000000000002" j_tight
    ∷ row j_tight "0D 02 00 01 000000000001 000000000002" "8D 02 00 01 000000000001 000000000002" j_tight
    ∷ declined j_tight "0D 02 00 01 000000000003 000000000002" "FF 17"
    ∷ declined j_tight "0D 02 00 01 000000000002 000000000003" "FF 17"
    ∷ declined j_tight "0D 02 00 01 000000000001 000000000001" "FF 17"
    ∷ declined j_tight "0D 02 00 02 000000000003 000000000001" "FF 16"
    -- 'as long as its own first byte says', n being another
    ∷ declined j_tight "0C 03 00 01 00 000000000002 000000000002" "FF 16"
    ∷ declined j_tight "0C 03 00 01 00 000000000002 0000000000" "FF 05"
    ∷ declined j_tight "0C" "FF 05"
    ∷ declined j_tight "0C 02" "FF 05"
    ∷ declined j_tight "0C 00 000000000000 000000000000" "FF 16"
    -- a record from before an addition
    ∷ declined j_raised "0D 02 00 01 000000000002 000000000002" "FF 17"
    ∷ row j_raised "0C 02 00 01 000000000002 000000000002" "8C 02 00 01" j_raised
    -- the bound in steps of the tariff
    ∷ row fives_tight "0E 00 01" "8E 02 00 01 000000000019 000000000023" fives_tight
    ∷ row fives_seven "0E 00 01" "8E 02 00 01 00000000000A 000000000023" fives_seven
    -- 'a forbidden entry (never for 0C)'
    ∷ declined fives_tight "0E 01 00" "FF 17"
    ∷ row fives_tight "0C 02 01 00 000000000000 000000000000" "8C 02 01 00" fives_tight
    ∷ declined fives_tight "0D 02 01 00 000000000000 000000000000" "FF 17"
    -- by train number, whatever the order of trains
    ∷ row turned_clauses "0E 01 00" "8E 02 01 00 000000000000 000000000001" turned_clauses
    ∷ row turned_clauses "0C 02 01 00 000000000000 000000000001" "8C 02 01 00" turned_clauses
    ∷ row turned_clauses "0D 02 01 00 000000000000 000000000001" "8D 02 01 00 000000000000 000000000001" turned_clauses
    -- a bound above the plan's cost
    ∷ declined j_above "0E 00 01" "FF 17"
    -- '17 as for a save comes last'
    ∷ silent_long 74 crowd (long_line "0E" 48 "")
    ∷ silent_long 75 crowd (long_line "0E" 48 "")
    ∷ shown_long 76 crowd (long_line "0E" 48 "") (long_line "8E18" 48 "000000000000 000000000018")
    ∷ shown_long 74 crowd (long_line "0D18" 48 "000000000000 000000000019") (text "FF17")
    ∷ shown_long 74 crowd (long_line "0D18" 46 "01 000000000000 000000000018") (text "FF16")
    ∷ shown_long 74 crowd (long_line "0C18" 48 "000000000000 000000000000") (long_line "8C18" 48 "")
    ∷ []

pub table_right : Right table
unfolding computed fresh j_with j without_pairs j_tight j_above j_raised fives_with fives_tight fives_seven turned_clauses crowd long_line shown_long silent_long table
table_right = right_by table refl
