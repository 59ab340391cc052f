-- Document 02, change 5: forbidden entries, written `closed` in blocks. The clique has no plan; D is J with choice 1 of train 0 forbidden; a round, a train without a permitted choice, and a pair
-- without a permitted entry. Replies and blocks were worked out by hand from the documents' rules, and are the reference implementation's too.
use mathlib.Core.Path.{refl}
use mathlib.Core.List.{List, [], ◌∷◌}
use Prim.Native.Nat.{ℕ}
use Prim.Native.String.{String}
use lib.ListN.{take}
use Rattle.tables.specs.WellFormed.{fresh_block}
use Rattle.cases.specs.Written.{text, closed, Written}
use Rattle.cases.specs.Calls.{Block, held, Row, call, row, declined, Right}
use Rattle.cases.specs.Computed.{computed}
use Rattle.cases.specs.Studies.{fresh}
use Rattle.cases.specs.Sessions.{gets, handed, Session}
use Rattle.cases.proofs.Rows.{right_by}

-- ---- the clique

unfoldable pub clique_line : String
clique_line = "01 03 0001 02 02 02 000000 000000 000000 000000 000000 000000 03 00 01 FFFFFF 000000 000000 FFFFFF 00 02 FFFFFF 000000 000000 FFFFFF 01 02 FFFFFF 000000 000000 FFFFFF"

-- three trains, of which no two take the same choice
unfoldable pub clique : Block
unfolding computed
clique =
    held
    (record {
      scale = 1;
      constant = 0;
      sizes = 2 ∷ 2 ∷ 2 ∷ [];
      firsts = 0 ∷ 0 ∷ 1 ∷ [];
      seconds = 1 ∷ 2 ∷ 2 ∷ [];
      loaded_choices = (0 ∷ 0 ∷ []) ∷ (0 ∷ 0 ∷ []) ∷ (0 ∷ 0 ∷ []) ∷ [];
      held_choices = (0 ∷ 0 ∷ []) ∷ (0 ∷ 0 ∷ []) ∷ (0 ∷ 0 ∷ []) ∷ [];
      loaded_entries = ((closed ∷ 0 ∷ []) ∷ (0 ∷ closed ∷ []) ∷ []) ∷ ((closed ∷ 0 ∷ []) ∷ (0 ∷ closed ∷ []) ∷ []) ∷ ((closed ∷ 0 ∷ []) ∷ (0 ∷ closed ∷ []) ∷ []) ∷ [];
      held_entries = ((closed ∷ 0 ∷ []) ∷ (0 ∷ closed ∷ []) ∷ []) ∷ ((closed ∷ 0 ∷ []) ∷ (0 ∷ closed ∷ []) ∷ []) ∷ ((closed ∷ 0 ∷ []) ∷ (0 ∷ closed ∷ []) ∷ []) ∷ [];
    })
    refl

-- ---- D

unfoldable pub d_line : String
d_line = "01 02 0001 02 02 000002 FFFFFF 000000 000000 01 00 01 000001 000000 000003 000002"

-- D with this cost of train 0, choice 0, in points, this constant, and these costs in parts
unfoldable pub d_with : ℕ → ℕ → List (List ℕ) → List (List ℕ) → Written
d_with cost c0 choices entries =
    record {
      scale = 1;
      constant = c0;
      sizes = 2 ∷ 2 ∷ [];
      firsts = 0 ∷ [];
      seconds = 1 ∷ [];
      loaded_choices = (cost ∷ closed ∷ []) ∷ (0 ∷ 0 ∷ []) ∷ [];
      held_choices = choices;
      loaded_entries = ((1 ∷ 0 ∷ []) ∷ (3 ∷ 2 ∷ []) ∷ []) ∷ [];
      held_entries = entries ∷ [];
    }

unfoldable pub d : Block
unfolding computed d_with
d = held (d_with 2 0 ((2 ∷ closed ∷ []) ∷ (0 ∷ 0 ∷ []) ∷ []) ((1 ∷ 0 ∷ []) ∷ (3 ∷ 2 ∷ []) ∷ [])) refl

-- D tightened: row 1 gives 2, which is lost at the forbidden choice, and column 0 gives 1 to train 1; then 2 goes from the permitted choice of train 0 to the constant
unfoldable pub d_tight : Block
unfolding computed d_with
d_tight = held (d_with 2 2 ((0 ∷ closed ∷ []) ∷ (1 ∷ 0 ∷ []) ∷ []) ((0 ∷ 0 ∷ []) ∷ (0 ∷ 0 ∷ []) ∷ [])) refl

-- and 1 point more for train 0, choice 0
unfoldable pub d_raised : Block
unfolding computed d_with
d_raised = held (d_with 3 2 ((1 ∷ closed ∷ []) ∷ (1 ∷ 0 ∷ []) ∷ []) ((0 ∷ 0 ∷ []) ∷ (0 ∷ 0 ∷ []) ∷ [])) refl

-- ---- a round

-- a choice of the second train and an entry of its other column are forbidden: the study with these costs in parts
unfoldable pub turned_with : List (List ℕ) → List (List ℕ) → Written
turned_with choices entries =
    record {
      scale = 1;
      constant = 0;
      sizes = 2 ∷ 2 ∷ [];
      firsts = 0 ∷ [];
      seconds = 1 ∷ [];
      loaded_choices = (0 ∷ 1 ∷ []) ∷ (4 ∷ closed ∷ []) ∷ [];
      held_choices = choices;
      loaded_entries = ((closed ∷ 0 ∷ []) ∷ (2 ∷ 5 ∷ []) ∷ []) ∷ [];
      held_entries = entries ∷ [];
    }

unfoldable pub turned : Block
unfolding computed turned_with
turned = held (turned_with ((0 ∷ 1 ∷ []) ∷ (4 ∷ closed ∷ []) ∷ []) ((closed ∷ 0 ∷ []) ∷ (2 ∷ 5 ∷ []) ∷ [])) refl

-- 4 goes from choice 0 of train 1 to the permitted entry of column 0, and is lost at the forbidden one; then row 1 gives 5 to train 0
unfoldable pub turned_round : Block
unfolding computed turned_with
turned_round = held (turned_with ((0 ∷ 6 ∷ []) ∷ (0 ∷ closed ∷ []) ∷ []) ((closed ∷ 0 ∷ []) ∷ (1 ∷ 0 ∷ []) ∷ [])) refl

-- ---- a train without a permitted choice

unfoldable pub shut_with : ℕ → Written
shut_with c0 =
    record {
      scale = 1;
      constant = c0;
      sizes = 1 ∷ [];
      firsts = [];
      seconds = [];
      loaded_choices = (closed ∷ []) ∷ [];
      held_choices = (closed ∷ []) ∷ [];
      loaded_entries = [];
      held_entries = [];
    }

unfoldable pub shut : Block
unfolding computed shut_with
shut = held (shut_with 0) refl

-- a lift takes nothing off it, and raises the constant as far as L
unfoldable pub shut_lifted : Block
unfolding computed shut_with
shut_lifted = held (shut_with 72000000000) refl

-- ---- a pair without a permitted entry

unfoldable pub apart_with : ℕ → ℕ → Written
apart_with c0 cost =
    record {
      scale = 1;
      constant = c0;
      sizes = 1 ∷ 1 ∷ [];
      firsts = 0 ∷ [];
      seconds = 1 ∷ [];
      loaded_choices = (0 ∷ []) ∷ (0 ∷ []) ∷ [];
      held_choices = (cost ∷ []) ∷ (0 ∷ []) ∷ [];
      loaded_entries = ((closed ∷ []) ∷ []) ∷ [];
      held_entries = ((closed ∷ []) ∷ []) ∷ [];
    }

unfoldable pub apart : Block
unfolding computed apart_with
apart = held (apart_with 0 0) refl

-- its row gives L to train 0, and its column 1 to train 1, from where it goes to the constant
unfoldable pub apart_fed : Block
unfolding computed apart_with
apart_fed = held (apart_with 1 72000000000) refl

-- ---- the table

unfoldable pub table : List Row
table =
    -- the clique: a load; a tightening and a round, which find nothing; a search that ends without a plan, and one that is spent; a save
    row fresh clique_line "81 000000000000 000000000000" clique
    ∷ row clique "04" "84 000000000000 000000000000" clique
    ∷ row clique "08" "88 000000000000 000000000000" clique
    ∷ row clique "06 00000064" "86 02 0000000A FFFFFFFFFFFF FF FF FF" clique
    ∷ row clique "06 00000003" "86 00 00000003 FFFFFFFFFFFF FF FF FF" clique
    ∷ call 136 clique (text "07") clique_line clique
    -- halves: the ceiling is 0 parts
    ∷ row clique
    "05 000002 000001 000001 000001 000001 000001 000001 000000 000001 000001 000000 000000 000001 000001 000000 000000 000001 000001 000000"
    "85 01 0000000000000000 000002"
    clique
    -- a weight on a forbidden entry; its sums disagree besides
    ∷ declined clique
    "05 000001 000001 000000 000001 000000 000001 000000 000001 000000 000000 000000 000001 000000 000000 000000 000001 000000 000000 000000"
    "FF 12"
    ∷ declined clique
    "05 000001 000001 000001 000001 000001 000001 000001 000001 000000 000000 000000 000001 000000 000000 000000 000001 000000 000000 000000"
    "FF 0E"
    -- D: a load, a search, a tightening, a search that ends at the bound
    ∷ row fresh d_line "81 000000000000 000000000000" d
    ∷ row d "06 0000000A" "86 01 00000004 000000000002 00 01" d
    ∷ row d "04" "84 000000000002 000000000002" d_tight
    ∷ row d_tight "06 0000000A" "86 01 00000003 000000000002 00 01" d_tight
    -- additions: to the forbidden choice, of FFFFFF, to the permitted choice; a save
    ∷ row d_tight "02 00 01 000005" "82 000000000002 000000000002" d_tight
    ∷ declined d_tight "02 00 01 FFFFFF" "FF 07"
    ∷ row d_tight "02 00 00 000001" "82 000000000002 000000000002" d_raised
    ∷ row d_raised "07" "01 02 0001 02 02 000003 FFFFFF 000000 000000 01 00 01 000001 000000 000003 000002" d_raised
    -- a round, and a search
    ∷ row fresh "01 02 0001 02 02 000000 000001 000004 FFFFFF 01 00 01 FFFFFF 000000 000002 000005" "81 000000000000 000000000000" turned
    ∷ row turned "08" "88 000000000000 000000000000" turned_round
    ∷ row turned_round "06 0000000A" "86 01 00000006 000000000007 01 00" turned_round
    -- a train without a permitted choice: a search, a lift of L, a tightening
    ∷ row fresh "01 01 0001 01 FFFFFF 00" "81 000000000000 000000000000" shut
    ∷ row shut "06 0000000A" "86 02 00000001 FFFFFFFFFFFF FF" shut
    ∷ row shut "03 0010C388D000" "83 0010C388D000 0010C388D000" shut_lifted
    ∷ row shut_lifted "04" "84 0010C388D000 0010C388D000" shut_lifted
    -- a pair without a permitted entry: a shift that feeds train 0 up to L; a round, a tightening and an addition, which would pass it; a search
    ∷ row fresh "01 02 0001 01 01 000000 000000 01 00 01 FFFFFF" "81 000000000000 000000000000" apart
    ∷ row apart "03 000000000000 000000000001 0010C388D000 000000000001" "83 000000000001 000000000001" apart_fed
    ∷ declined apart_fed "08" "FF 0C"
    ∷ declined apart_fed "04" "FF 0C"
    ∷ declined apart_fed "02 00 00 000001" "FF 0C"
    ∷ row apart_fed "06 0000000A" "86 02 00000002 FFFFFFFFFFFF FF FF" apart_fed
    ∷ []

pub table_right : Right table
unfolding computed fresh clique_line clique d_line d_with d d_tight d_raised turned_with turned turned_round shut_with shut shut_lifted apart_with apart apart_fed table
table_right = right_by table refl

-- its first nine rows are one list of calls from a fresh block
pub session : Session fresh_block (take 9 table)
unfolding gets handed call row declined fresh table
session = refl
