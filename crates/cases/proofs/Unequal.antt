-- A session on three trains with 2, 3 and 1 choices, two pairs and a scale of 2, so that no train, choice, pair or unit stands for another. Replies and blocks are the reference
-- implementation's.
use mathlib.Core.Path.{refl}
use mathlib.Core.List.{List, [], ◌∷◌}
use Prim.Native.Nat.{ℕ}
use Rattle.tables.specs.WellFormed.{fresh_block}
use Rattle.cases.specs.Written.{Written}
use Rattle.cases.specs.Calls.{Block, held, Row, call, row, declined, Right}
use Rattle.cases.specs.Computed.{computed}
use Rattle.cases.specs.Studies.{fresh}
use Rattle.cases.specs.Sessions.{gets, handed, Session}
use Rattle.cases.proofs.Rows.{right_by}

-- the study with these costs of choices in points; then its constant and its costs in parts
unfoldable pub study : List (List ℕ) → ℕ → List (List ℕ) → List (List (List ℕ)) → Written
study points c0 choices entries =
    record {
      scale = 2;
      constant = c0;
      sizes = 2 ∷ 3 ∷ 1 ∷ [];
      firsts = 0 ∷ 1 ∷ [];
      seconds = 1 ∷ 2 ∷ [];
      loaded_choices = points;
      held_choices = choices;
      loaded_entries = ((2 ∷ 3 ∷ 4 ∷ []) ∷ (1 ∷ 5 ∷ 2 ∷ []) ∷ []) ∷ ((1 ∷ []) ∷ (0 ∷ []) ∷ (2 ∷ []) ∷ []) ∷ [];
      held_entries = entries;
    }

-- the entries in parts, as loaded: twice the points
unfoldable pub whole : List (List (List ℕ))
whole = ((4 ∷ 6 ∷ 8 ∷ []) ∷ (2 ∷ 10 ∷ 4 ∷ []) ∷ []) ∷ ((2 ∷ []) ∷ (0 ∷ []) ∷ (4 ∷ []) ∷ []) ∷ []

-- the entries tightened, rows first, then columns: columns first would leave 2, 0 and 4 in the first row of the first pair
unfoldable pub tight : List (List (List ℕ))
tight = ((0 ∷ 0 ∷ 2 ∷ []) ∷ (0 ∷ 6 ∷ 0 ∷ []) ∷ []) ∷ ((0 ∷ []) ∷ (0 ∷ []) ∷ (0 ∷ []) ∷ []) ∷ []

-- the choices in points: as loaded, after the first addition, and after the second
unfoldable pub points : List (List ℕ)
points = (1 ∷ 0 ∷ []) ∷ (0 ∷ 2 ∷ 0 ∷ []) ∷ (3 ∷ []) ∷ []

unfoldable pub points1 : List (List ℕ)
points1 = (1 ∷ 0 ∷ []) ∷ (2 ∷ 2 ∷ 0 ∷ []) ∷ (3 ∷ []) ∷ []

unfoldable pub points2 : List (List ℕ)
points2 = (1 ∷ 2 ∷ []) ∷ (2 ∷ 2 ∷ 0 ∷ []) ∷ (3 ∷ []) ∷ []

unfoldable pub loaded : Block
unfolding computed study whole points
loaded = held (study points 0 ((2 ∷ 0 ∷ []) ∷ (0 ∷ 4 ∷ 0 ∷ []) ∷ (6 ∷ []) ∷ []) whole) refl

unfoldable pub added1 : Block
unfolding computed study whole points1
added1 = held (study points1 0 ((2 ∷ 0 ∷ []) ∷ (4 ∷ 4 ∷ 0 ∷ []) ∷ (6 ∷ []) ∷ []) whole) refl

unfoldable pub shifted1 : Block
unfolding computed study points1
shifted1 =
    held (study points1 3 ((2 ∷ 0 ∷ []) ∷ (5 ∷ 1 ∷ 1 ∷ []) ∷ (2 ∷ []) ∷ [])
    (((4 ∷ 7 ∷ 8 ∷ []) ∷ (2 ∷ 11 ∷ 4 ∷ []) ∷ []) ∷ ((2 ∷ []) ∷ (3 ∷ []) ∷ (4 ∷ []) ∷ []) ∷ [])) refl

unfoldable pub tight1 : Block
unfolding computed study tight points1
tight1 = held (study points1 14 ((4 ∷ 0 ∷ []) ∷ (0 ∷ 0 ∷ 0 ∷ []) ∷ (0 ∷ []) ∷ []) tight) refl

unfoldable pub added2 : Block
unfolding computed study tight points2
added2 = held (study points2 14 ((4 ∷ 4 ∷ []) ∷ (0 ∷ 0 ∷ 0 ∷ []) ∷ (0 ∷ []) ∷ []) tight) refl

unfoldable pub shifted2 : Block
unfolding computed study points2
shifted2 =
    held (study points2 15 ((1 ∷ 2 ∷ []) ∷ (0 ∷ 0 ∷ 0 ∷ []) ∷ (0 ∷ []) ∷ [])
    (((2 ∷ 2 ∷ 4 ∷ []) ∷ (1 ∷ 7 ∷ 1 ∷ []) ∷ []) ∷ ((0 ∷ []) ∷ (0 ∷ []) ∷ (0 ∷ []) ∷ []) ∷ [])) refl

unfoldable pub tight2 : Block
unfolding computed study tight points2
tight2 = held (study points2 18 ((0 ∷ 0 ∷ []) ∷ (0 ∷ 0 ∷ 0 ∷ []) ∷ (0 ∷ []) ∷ []) tight) refl

unfoldable pub table : List Row
table =
    -- load
    row fresh
    "01 03 0002 02 03 01 000001 000000 000000 000002 000000 000003 02 00 01 000002 000003 000004 000001 000005 000002 01 02 000001 000000 000002"
    "81 000000000000 000000000000"
    loaded
    -- add 2 points, 4 parts, to train 1, choice 0
    ∷ row loaded "02 01 00 000002" "82 000000000000 000000000000" added1
    -- search: ends, before any cost is moved
    ∷ row added1 "06 00000064" "86 01 0000000D 000000000007 01 00 00" added1
    -- shift: 3 parts are lifted from train 2; −1 goes to choice 1 of train 1 from the first pair; 1, −2 and 1 to train 1 and −1 to train 2 from the second. 3 parts publish 2 points
    ∷ row added1
    "03 000000000000 000000000000 000000000003 000000000000 000000000000 000000000000 FFFFFFFFFFFF 000000000000 000000000001 FFFFFFFFFFFE 000000000001 FFFFFFFFFFFF"
    "83 000000000003 000000000002"
    shifted1
    -- tighten: 14 parts publish 7 points
    ∷ row shifted1 "04" "84 00000000000E 000000000007" tight1
    -- certify, W = 3, on two plans that cost nothing more than the constant: reached
    ∷ row tight1
    "05 000003 000000 000003 000001 000000 000002 000003 000000 000000 000000 000001 000000 000002 000001 000000 000002"
    "85 01 000000000000002A 000003"
    tight1
    -- certify, W = 2, with a half on choice 0 of train 0: E is above W × c0, not reached
    ∷ row tight1
    "05 000002 000001 000001 000001 000001 000000 000002 000000 000001 000000 000001 000000 000000 000001 000001 000000"
    "85 00 0000000000000020 000002"
    tight1
    -- the same, but for the columns of the first pair, which do not sum to the weights of train 1: 14
    ∷ declined tight1 "05 000002 000001 000001 000001 000001 000000 000002 000000 000001 000000 000000 000001 000000 000001 000001 000000" "FF 0E"
    -- search: spent with a plan, spent with none, and ended at the bound
    ∷ row tight1 "06 00000005" "86 00 00000005 000000000009 00 00 00" tight1
    ∷ row tight1 "06 00000002" "86 00 00000002 FFFFFFFFFFFF FF FF FF" tight1
    ∷ row tight1 "06 00000064" "86 01 00000008 000000000007 01 00 00" tight1
    -- a second time: add 2 points to train 0, choice 1; lift 1 part from train 0, which gives 2 and 1 back to the rows of the first pair; tighten
    ∷ row tight1 "02 00 01 000002" "82 00000000000E 000000000007" added2
    ∷ row added2
    "03 000000000001 000000000000 000000000000 FFFFFFFFFFFE FFFFFFFFFFFF 000000000000 000000000000 000000000000 000000000000 000000000000 000000000000 000000000000"
    "83 00000000000F 000000000008"
    shifted2
    ∷ row shifted2 "04" "84 000000000012 000000000009" tight2
    ∷ []

pub table_right : Right table
unfolding computed fresh study whole tight points points1 points2 loaded added1 shifted1 tight1 added2 shifted2 tight2 table
table_right = right_by table refl

-- it is one list of calls from a fresh block
pub table_session : Session fresh_block table
unfolding gets handed call row declined fresh table
table_session = refl
