-- Document 02, change 9: the bound in steps of the costs, by choices and by pairs, with additions, forbidden entries and clauses; two blocks that no lines make, of which the bound exceeds a plan's cost; and costs of searches at two and at three parts a point.
-- Replies were worked out by hand from the documents' rules, and are the reference implementation's too.
use mathlib.Core.Path.{refl}
use mathlib.Core.List.{List, [], ◌∷◌}
use Prim.Native.Nat.{ℕ}
use lib.ListN.{take}
use Rattle.tables.specs.WellFormed.{fresh_block}
use Rattle.cases.specs.Written.{closed, Written}
use Rattle.cases.specs.Calls.{Block, held, Row, call, row, Right}
use Rattle.cases.specs.Computed.{computed}
use Rattle.cases.specs.Studies.{fresh, j, j_with, without_pairs}
use Rattle.cases.specs.Sessions.{gets, handed, Session}
use Rattle.cases.proofs.Rows.{right_by}
use Rattle.cases.proofs.Marked.{tight}

-- one train of two choices, one part a point: the choices' costs, the constant, and the choices in parts
unfoldable pub one_with : List ℕ → ℕ → List ℕ → Written
unfolding without_pairs
one_with costs c0 parts = without_pairs 1 (2 ∷ []) (costs ∷ []) c0 (parts ∷ [])

-- 15 and 20 points: the step is 5
unfoldable pub fives : Block
unfolding computed one_with without_pairs
fives = held (one_with (15 ∷ 20 ∷ []) 0 (15 ∷ 20 ∷ [])) refl

unfoldable pub fives_lifted : Block
unfolding computed one_with without_pairs
fives_lifted = held (one_with (15 ∷ 20 ∷ []) 11 (4 ∷ 9 ∷ [])) refl

-- a point more: the step is 4
unfoldable pub mixed : Block
unfolding computed one_with without_pairs
mixed = held (one_with (16 ∷ 20 ∷ []) 11 (5 ∷ 9 ∷ [])) refl

-- two trains of one choice, 6 and 9 points, before and after a lift of 4; then 7 and 9
unfoldable pub threes : Block
unfolding computed without_pairs
threes = held (without_pairs 1 (1 ∷ 1 ∷ []) ((6 ∷ []) ∷ (9 ∷ []) ∷ []) 0 ((6 ∷ []) ∷ (9 ∷ []) ∷ [])) refl

unfoldable pub threes_lifted : Block
unfolding computed without_pairs
threes_lifted = held (without_pairs 1 (1 ∷ 1 ∷ []) ((6 ∷ []) ∷ (9 ∷ []) ∷ []) 4 ((2 ∷ []) ∷ (9 ∷ []) ∷ [])) refl

unfoldable pub threes_added : Block
unfolding computed without_pairs
threes_added = held (without_pairs 1 (1 ∷ 1 ∷ []) ((7 ∷ []) ∷ (9 ∷ []) ∷ []) 4 ((3 ∷ []) ∷ (9 ∷ []) ∷ [])) refl

-- choices of 6 points and a pair of 4: the step is 2
unfoldable pub paired_with : ℕ → List ℕ → Written
paired_with c0 first =
    record {
      scale = 1;
      constant = c0;
      sizes = 2 ∷ 2 ∷ [];
      firsts = 0 ∷ [];
      seconds = 1 ∷ [];
      loaded_choices = (6 ∷ 6 ∷ []) ∷ (6 ∷ 6 ∷ []) ∷ [];
      held_choices = first ∷ (6 ∷ 6 ∷ []) ∷ [];
      loaded_entries = ((4 ∷ 4 ∷ []) ∷ (4 ∷ 4 ∷ []) ∷ []) ∷ [];
      held_entries = ((4 ∷ 4 ∷ []) ∷ (4 ∷ 4 ∷ []) ∷ []) ∷ [];
    }

unfoldable pub paired : Block
unfolding computed paired_with
paired = held (paired_with 0 (6 ∷ 6 ∷ [])) refl

unfoldable pub paired_lifted : Block
unfolding computed paired_with
paired_lifted = held (paired_with 3 (3 ∷ 3 ∷ [])) refl

-- a forbidden choice beside 10 points
unfoldable pub barred : Block
unfolding computed one_with without_pairs
barred = held (one_with (closed ∷ 10 ∷ []) 0 (closed ∷ 10 ∷ [])) refl

unfoldable pub barred_lifted : Block
unfolding computed one_with without_pairs
barred_lifted = held (one_with (closed ∷ 10 ∷ []) 7 (closed ∷ 3 ∷ [])) refl

unfoldable pub barred_added : Block
unfolding computed one_with without_pairs
barred_added = held (one_with (closed ∷ 11 ∷ []) 7 (closed ∷ 4 ∷ [])) refl

-- both choices forbidden
unfoldable pub shut : Block
unfolding computed one_with without_pairs
shut = held (one_with (closed ∷ closed ∷ []) 0 (closed ∷ closed ∷ [])) refl

unfoldable pub shut_lifted : Block
unfolding computed one_with without_pairs
shut_lifted = held (one_with (closed ∷ closed ∷ []) 7 (closed ∷ closed ∷ [])) refl

-- 1 of weight 5 and −1 of weight 5, two parts a point
unfoldable pub weighed : Block
unfolding computed without_pairs
weighed = held (without_pairs 2 (2 ∷ []) ((5 ∷ 5 ∷ []) ∷ []) 0 ((10 ∷ 10 ∷ []) ∷ [])) refl

unfoldable pub weighed_lifted : Block
unfolding computed without_pairs
weighed_lifted = held (without_pairs 2 (2 ∷ []) ((5 ∷ 5 ∷ []) ∷ []) 3 ((7 ∷ 7 ∷ []) ∷ [])) refl

-- no costs
unfoldable pub free : Block
unfolding computed one_with without_pairs
free = held (one_with (0 ∷ 0 ∷ []) 0 (0 ∷ 0 ∷ [])) refl

-- blocks that no lines make: two choices of 5 points, with totals of 5 and 1, and of 1 and 5
unfoldable pub odd : Block
unfolding computed one_with without_pairs
odd = held (one_with (5 ∷ 5 ∷ []) 1 (4 ∷ 0 ∷ [])) refl

unfoldable pub odd_turned : Block
unfolding computed one_with without_pairs
odd_turned = held (one_with (5 ∷ 5 ∷ []) 1 (0 ∷ 4 ∷ [])) refl

-- J tightened, but at two parts a point and with an odd constant
unfoldable pub halves : Block
unfolding computed
halves =
    held
    (record {
      scale = 2;
      constant = 3;
      sizes = 2 ∷ 2 ∷ [];
      firsts = 0 ∷ [];
      seconds = 1 ∷ [];
      loaded_choices = (2 ∷ 0 ∷ []) ∷ (0 ∷ 0 ∷ []) ∷ [];
      held_choices = (0 ∷ 0 ∷ []) ∷ (1 ∷ 0 ∷ []) ∷ [];
      loaded_entries = ((1 ∷ 0 ∷ []) ∷ (3 ∷ 2 ∷ []) ∷ []) ∷ [];
      held_entries = ((0 ∷ 0 ∷ []) ∷ (0 ∷ 0 ∷ []) ∷ []) ∷ [];
    })
    refl

-- one train at three parts a point, of which a shift lifted one
unfoldable pub thirds : Block
unfolding computed without_pairs
thirds = held (without_pairs 3 (3 ∷ []) ((2 ∷ 1 ∷ 1 ∷ []) ∷ []) 1 ((5 ∷ 2 ∷ 2 ∷ []) ∷ [])) refl

unfoldable pub table : List Row
table =
    -- 'a bound of 11 already means 15', and a search ends there
    row fresh "01 01 0001 02 00000F 000014 00" "81 000000000000 000000000000" fives
    ∷ row fives "03 00000000000B" "83 00000000000B 00000000000F" fives_lifted
    ∷ row fives_lifted "06 00000009" "86 01 00000001 00000000000F 00" fives_lifted
    -- 'additions included'
    ∷ row fives_lifted "02 00 00 000001" "82 00000000000B 00000000000C" mixed
    ∷ row mixed "06 00000009" "86 01 00000002 000000000010 00" mixed
    -- the choices of all trains
    ∷ row fresh "01 02 0001 01 01 000006 000009 00" "81 000000000000 000000000000" threes
    ∷ row threes "03 000000000004 000000000000" "83 000000000004 000000000006" threes_lifted
    ∷ row threes_lifted "02 00 00 000001" "82 000000000004 000000000004" threes_added
    -- pairs count
    ∷ row fresh "01 02 0001 02 02 000006 000006 000006 000006 01 00 01 000004 000004 000004 000004" "81 000000000000 000000000000" paired
    ∷ row paired "03 000000000003 000000000000 000000000000 000000000000 000000000000 000000000000" "83 000000000003 000000000004" paired_lifted
    -- 'forbidden entries left out', and an addition to one of them
    ∷ row fresh "01 01 0001 02 FFFFFF 00000A 00" "81 000000000000 000000000000" barred
    ∷ row barred "03 000000000007" "83 000000000007 00000000000A" barred_lifted
    ∷ row barred_lifted "02 00 00 000003" "82 000000000007 00000000000A" barred_lifted
    ∷ row barred_lifted "02 00 01 000001" "82 000000000007 00000000000B" barred_added
    ∷ row fresh "01 01 0001 02 FFFFFF FFFFFF 00" "81 000000000000 000000000000" shut
    ∷ row shut "03 000000000007" "83 000000000007 000000000007" shut_lifted
    -- clauses of one weight
    ∷ row fresh "09 01 0002 0002 01 00 000005 FF 00 000005" "89 000000000000 000000000000" weighed
    ∷ row weighed "03 000000000003" "83 000000000003 000000000005" weighed_lifted
    -- 'if all are 0 it is 1'
    ∷ row fresh "01 01 0001 02 000000 000000 00" "81 000000000000 000000000000" free
    ∷ row free "04" "84 000000000000 000000000000" free
    -- J has a step of 1
    ∷ row j "04" "84 000000000002 000000000002" tight
    -- only a cost that equals the bound ends the walk, and on a block of no lines a plan may cost less than the bound
    ∷ row odd "06 00000009" "86 01 00000001 000000000005 00" odd
    ∷ row odd_turned "06 00000009" "86 01 00000002 000000000001 00" odd_turned
    -- 'The cost is the best total in points, rounded up': a plan of 4 parts costs 2, which is the bound, though another has 3 parts
    ∷ row halves "06 0000000A" "86 01 00000002 000000000002 00 00" halves
    -- it is compared with the bound in points: 6 parts cost 2, 3 parts cost 1
    ∷ row thirds "06 00000002" "86 01 00000002 000000000001 01" thirds
    ∷ []

pub table_right : Right table
unfolding computed fresh j_with j tight without_pairs one_with fives fives_lifted mixed threes threes_lifted threes_added paired_with paired paired_lifted barred barred_lifted barred_added shut shut_lifted weighed weighed_lifted free odd odd_turned halves thirds table
table_right = right_by table refl

-- its first five rows are one list of calls from a fresh block
pub session : Session fresh_block (take 5 table)
unfolding gets handed call row fresh table
session = refl
