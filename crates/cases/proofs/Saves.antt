-- Document 02, change 1: saves of J and of a study K with three trains, two pairs and a scale of 2, as loaded and once they were tightened and added to. Replies and blocks were worked
-- out by hand from the documents' rules.
use mathlib.Core.Path.{refl}
use mathlib.Core.List.{List, [], ◌∷◌}
use Prim.Native.Nat.{ℕ, ◌-◌}
use Prim.Native.String.{String}
use Rattle.service.specs.Answer.{min_buffer}
use Rattle.cases.specs.Written.{Written, text}
use Rattle.cases.specs.Calls.{Block, held, Row, call, row, declined, silent, Right}
use Rattle.cases.specs.Computed.{computed}
use Rattle.cases.specs.Studies.{fresh, j_line, j_with, j}
use Rattle.cases.proofs.Rows.{right_by}
use Rattle.cases.proofs.Marked.{tight}

-- J tightened, and then 5 points more for train 0, choice 0
unfoldable pub raised : Block
unfolding computed
raised =
    held
    (record {
      scale = 1;
      constant = 2;
      sizes = 2 ∷ 2 ∷ [];
      firsts = 0 ∷ [];
      seconds = 1 ∷ [];
      loaded_choices = (7 ∷ 0 ∷ []) ∷ (0 ∷ 0 ∷ []) ∷ [];
      held_choices = (5 ∷ 0 ∷ []) ∷ (1 ∷ 0 ∷ []) ∷ [];
      loaded_entries = ((1 ∷ 0 ∷ []) ∷ (3 ∷ 2 ∷ []) ∷ []) ∷ [];
      held_entries = ((0 ∷ 0 ∷ []) ∷ (0 ∷ 0 ∷ []) ∷ []) ∷ [];
    })
    refl

-- the line of K
unfoldable pub k_line : String
k_line = "01 03 0002 02 02 02 000001 000000 000000 000003 000002 000002 02 00 01 000000 000004 000001 000000 01 02 000005 000001 000000 0F4240"

-- K with this constant, and these costs in parts
unfoldable pub k_with : ℕ → List (List ℕ) → List (List (List ℕ)) → Written
k_with c0 choices entries =
    record {
      scale = 2;
      constant = c0;
      sizes = 2 ∷ 2 ∷ 2 ∷ [];
      firsts = 0 ∷ 1 ∷ [];
      seconds = 1 ∷ 2 ∷ [];
      loaded_choices = (1 ∷ 0 ∷ []) ∷ (0 ∷ 3 ∷ []) ∷ (2 ∷ 2 ∷ []) ∷ [];
      held_choices = choices;
      loaded_entries = ((0 ∷ 4 ∷ []) ∷ (1 ∷ 0 ∷ []) ∷ []) ∷ ((5 ∷ 1 ∷ []) ∷ (0 ∷ 1000000 ∷ []) ∷ []) ∷ [];
      held_entries = entries;
    }

unfoldable pub k : Block
unfolding computed k_with
k =
    held (k_with 0 ((2 ∷ 0 ∷ []) ∷ (0 ∷ 6 ∷ []) ∷ (4 ∷ 4 ∷ []) ∷ [])
    (((0 ∷ 8 ∷ []) ∷ (2 ∷ 0 ∷ []) ∷ []) ∷ ((10 ∷ 2 ∷ []) ∷ (0 ∷ 2000000 ∷ []) ∷ []) ∷ [])) refl

-- K tightened: the rows of the second pair give 2 and 0 to train 1; then 2 goes from train 1 and 4 from train 2 to the constant
unfoldable pub k_tight : Block
unfolding computed k_with
k_tight =
    held (k_with 6 ((2 ∷ 0 ∷ []) ∷ (0 ∷ 4 ∷ []) ∷ (0 ∷ 0 ∷ []) ∷ [])
    (((0 ∷ 8 ∷ []) ∷ (2 ∷ 0 ∷ []) ∷ []) ∷ ((8 ∷ 0 ∷ []) ∷ (0 ∷ 2000000 ∷ []) ∷ []) ∷ [])) refl

unfoldable pub table : List Row
table =
    -- a fresh block has nothing to save
    declined fresh "07" "FF04"
    -- J, straight after its load, in the smallest buffer; in a smaller one nothing, though the line would fit
    ∷ row j "07" j_line j
    ∷ silent (min_buffer - 1) j "07"
    -- a save has no fields
    ∷ declined j "0700" "FF05"
    ∷ declined j "070707" "FF05"
    -- what is saved is H with its additions, not T or the constant
    ∷ row tight "02 00 00 000005" "82 000000000002 000000000002" raised
    ∷ row raised "07" "01 02 0001 02 02 000007 000000 000000 000000 01 00 01 000001 000000 000003 000002" raised
    ∷ row fresh k_line "81 000000000000 000000000000" k
    ∷ row k "04" "84 000000000006 000000000003" k_tight
    ∷ call 120 k_tight (text "07") k_line k_tight
    -- a line that just fits is given; a character less, and nothing is
    ∷ call 109 k (text "07") k_line k
    ∷ call 108 k (text "07") k_line k
    ∷ silent 107 k "07"
    ∷ silent min_buffer k "07"
    -- 5 goes before a late 17
    ∷ declined k "0700" "FF05"
    ∷ []

pub table_right : Right table
unfolding computed fresh j_line j_with j tight raised k_line k_with k k_tight table
table_right = right_by table refl
