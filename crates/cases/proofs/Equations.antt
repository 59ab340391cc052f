-- Where a shift and a tightening of three trains of unequal sizes and two pairs end: the numbers worked out by hand from document 01's sentences, beside those of the equations. One
-- table for each, and one statement over both, which the checker computes. That the operations end there is a law of `shift` and of `tighten`.
use mathlib.Core.Path.{◌≡◌, refl}
use mathlib.Core.List.{List, [], ◌∷◌}
use lib.IntN.{ℤ, pos, negsuc}
use lib.ListN.{set}
use Rattle.theory.specs.Whole.{sumℤ}
use Rattle.refusals.specs.Verdicts.{verdict_number}
use Rattle.tables.specs.Block.{max_parts, constant_place, at}
use Rattle.tables.specs.Numbers.{numbers}
use Rattle.operations.specs.Load.{loaded_block}
use Rattle.rewriting.specs.Ends.{of_pair, Ends}
use Rattle.shift.specs.Equations.{shift_ends}
use Rattle.tighten.specs.Leasts.{tighten_ends}
use Rattle.tighten.specs.Tighten.{tighten_outcome}
use Rattle.cases.specs.Computed.{computed}

-- s = 2; in parts, train 0 has 6 8, train 1 has 10 4 12, train 2 has 14 2; pair (0, 1) has 2 4 6 and 8 6 12, pair (1, 2) has 4 8, 12 10 and 20 24
unfoldable pub study : List ℤ
study = loaded_block (numbers 2 (2 ∷ 3 ∷ 2 ∷ []) (3 ∷ 4 ∷ 5 ∷ 2 ∷ 6 ∷ 7 ∷ 1 ∷ []) (0 ∷ 1 ∷ []) (1 ∷ 2 ∷ []) (1 ∷ 2 ∷ 3 ∷ 4 ∷ 3 ∷ 6 ∷ 2 ∷ 4 ∷ 6 ∷ 5 ∷ 10 ∷ 12 ∷ []))

-- all ends of this study: c0, the choices by train, and the entries by pair, a outer, b inner
unfoldable pub listed : Ends → List ℤ
listed e =
    e.constant
    ∷ e.choice 0 0 ∷ e.choice 0 1 ∷ e.choice 1 0 ∷ e.choice 1 1 ∷ e.choice 1 2 ∷ e.choice 2 0 ∷ e.choice 2 1
    ∷ e.entry 0 0 0 ∷ e.entry 0 0 1 ∷ e.entry 0 0 2 ∷ e.entry 0 1 0 ∷ e.entry 0 1 1 ∷ e.entry 0 1 2
    ∷ e.entry 1 0 0 ∷ e.entry 1 0 1 ∷ e.entry 1 1 0 ∷ e.entry 1 1 1 ∷ e.entry 1 2 0 ∷ e.entry 1 2 1 ∷ []

-- u_0, u_1, u_2
unfoldable pub lifts : List ℤ
lifts = pos 1 ∷ pos 2 ∷ pos 3 ∷ []

-- of pair (0, 1) p_0,a and p_1,b, then of pair (1, 2) p_1,a and p_2,b
unfoldable pub moves : List ℤ
moves = pos 1 ∷ pos 2 ∷ pos 1 ∷ pos 3 ∷ negsuc 0 ∷ negsuc 1 ∷ pos 4 ∷ pos 5 ∷ negsuc 1 ∷ negsuc 2 ∷ []

unfoldable pub shift_table : List ℤ
shift_table =
    -- 0 + 1 + 2 + 3
    pos 6
    -- 6 - 1 + 1, and 8 - 1 + 2
    ∷ pos 6 ∷ pos 9
    -- train 1 is the second of pair (0, 1) and the first of pair (1, 2): 10 - 2 + 1 - 2, 4 - 2 + 3 + 4, 12 - 2 - 1 + 5
    ∷ pos 7 ∷ pos 9 ∷ pos 14
    -- 14 - 3 - 2, and 2 - 3 - 3, which is below 0: this shift is declined
    ∷ pos 9 ∷ negsuc 3
    -- 2 - 1 - 1, 4 - 1 - 3, 6 - 1 + 1; 8 - 2 - 1, 6 - 2 - 3, 12 - 2 + 1
    ∷ pos 0 ∷ pos 0 ∷ pos 6 ∷ pos 5 ∷ pos 1 ∷ pos 11
    -- 4 + 2 + 2, 8 + 2 + 3; 12 - 4 + 2, 10 - 4 + 3; 20 - 5 + 2, 24 - 5 + 3
    ∷ pos 8 ∷ pos 13 ∷ pos 10 ∷ pos 9 ∷ pos 17 ∷ pos 22 ∷ []

unfoldable pub tighten_table : List ℤ
tighten_table =
    -- after the pairs train 0 has 8 14, train 1 has 14 14 36, train 2 has 14 2: the leasts 8, 14 and 2 go to the constant
    pos 24 ∷ pos 0 ∷ pos 6 ∷ pos 0 ∷ pos 0 ∷ pos 22 ∷ pos 12 ∷ pos 0
    -- pair (0, 1): rows give 2 and 6, which leaves 0 2 4 and 2 0 6; columns then give 0, 0 and 4
    ∷ pos 0 ∷ pos 2 ∷ pos 0 ∷ pos 2 ∷ pos 0 ∷ pos 2
    -- pair (1, 2): rows give 4, 10 and 20, which leaves 0 4, 2 0 and 0 4; columns give nothing
    ∷ pos 0 ∷ pos 4 ∷ pos 2 ∷ pos 0 ∷ pos 0 ∷ pos 4 ∷ []

pub tables_right : (listed (shift_ends (at lifts) (at moves) study) ≡ shift_table) × (listed (tighten_ends study) ≡ tighten_table)
unfolding computed sumℤ of_pair study listed lifts moves shift_table tighten_table
tables_right = (refl, refl)

-- 12 of tighten, where the constant was L before: the pairs' turns leave it, and the trains' turn raises it above L
pub tighten_above : verdict_number (tighten_outcome (set study constant_place (pos max_parts))) ≡ 12
unfolding computed study
tighten_above = refl
