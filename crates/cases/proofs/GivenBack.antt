-- Document 02, change 3: lifts below 0, of J tightened. The constant falls and goes onto a train's choices, as far as 0.
use mathlib.Core.Path.{refl}
use mathlib.Core.List.{List, [], ◌∷◌}
use Rattle.cases.specs.Calls.{Block, held, Row, row, declined, Right}
use Rattle.cases.specs.Computed.{computed}
use Rattle.cases.specs.Studies.{j_with}
use Rattle.cases.proofs.Marked.{tight}
use Rattle.cases.proofs.Rows.{right_by}

-- 1 part of the constant is back on train 0
unfoldable pub once : Block
unfolding computed j_with
once = held (j_with 1 ((1 ∷ 1 ∷ []) ∷ (1 ∷ 0 ∷ []) ∷ []) ((0 ∷ 0 ∷ []) ∷ (0 ∷ 0 ∷ []) ∷ [])) refl

-- and 1 part on train 1
unfoldable pub twice : Block
unfolding computed j_with
twice = held (j_with 0 ((1 ∷ 1 ∷ []) ∷ (2 ∷ 1 ∷ []) ∷ []) ((0 ∷ 0 ∷ []) ∷ (0 ∷ 0 ∷ []) ∷ [])) refl

unfoldable pub table : List Row
table =
    -- u_0 = −1
    row tight "03 FFFFFFFFFFFF 000000000000 000000000000 000000000000 000000000000 000000000000" "83 000000000001 000000000001" once
    -- u_1 = −1
    ∷ row once "03 000000000000 FFFFFFFFFFFF 000000000000 000000000000 000000000000 000000000000" "83 000000000000 000000000000" twice
    -- the same again: the constant would end below 0
    ∷ declined twice "03 000000000000 FFFFFFFFFFFF 000000000000 000000000000 000000000000 000000000000" "FF 0C"
    ∷ []

pub table_right : Right table
unfolding computed j_with tight once twice table
table_right = right_by table refl
