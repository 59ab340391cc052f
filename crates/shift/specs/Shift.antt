-- Document 01, '03 shift': lifts and moves together, in parts, and only the end is judged.
use Rattle.std.specs.Prelude.{List, ℕ, ◌+◌, ◌≤◌, ℤ}
use Rattle.std.specs.Int.Signed.{mag}
use Rattle.theory.specs.Fold.{iter}
use Rattle.refusals.specs.Verdicts.{Verdict}
use Rattle.tables.specs.LineLimits.{max_move}
use Rattle.tables.specs.Plans.{shape_of}
use Rattle.tables.specs.Counts.{moves_before}
use Rattle.tables.specs.Block.{at, trains, pairs, size, first}
use Rattle.rewriting.specs.declared.sides.Side.{Side}
use Rattle.rewriting.specs.declared.sides.Side.TheVariants.{Rows, Columns}
use Rattle.rewriting.specs.Judged.{judged, judged_block}
use Rattle.rewriting.specs.Moves.{lane_train, project, project_unary}

-- 11, a lift or a move outside ±10^12, is judged before: none is further from 0
pub record SmallMoves (l : List ℤ) : Type 0 where
  pub small : (i : ℕ) → mag (at l i) ≤ max_move

-- 'lifts u_i by train': c0 grows by u_i, and c_i(a) falls by u_i
abbrev pub lifted : List ℤ → List ℤ → List ℤ
lifted lifts b = iter (trains b) (λ i. project_unary i (at lifts i)) b

-- the moves of one train of pair k, which begin at `start`: p_i,a by row, or p_j,b by column
abbrev pub lanes_shifted : Side → List ℤ → ℕ → ℕ → List ℤ → List ℤ
lanes_shifted side moves start k b = iter (size b (lane_train side b k)) (λ x. project side k x (at moves (start + x))) b

-- 'for each pair the moves p_i,a by a, then p_j,b by b'
unfoldable pub pair_shifted : List ℤ → ℕ → ℕ → List ℤ → List ℤ
pair_shifted moves start k b = lanes_shifted Columns moves (start + size b (first b k)) k (lanes_shifted Rows moves start k b)

-- all pairs of the block, whose moves begin where the shape of b says
abbrev pub pairs_shifted : List ℤ → List ℤ → List ℤ
pairs_shifted moves b = iter (pairs b) (λ k. pair_shifted moves (moves_before (shape_of b) k) k) b

-- where a shift ends
unfoldable pub shifted : List ℤ → List ℤ → List ℤ → List ℤ
shifted lifts moves b = pairs_shifted moves (lifted lifts b)

abbrev pub shift_outcome : List ℤ → List ℤ → List ℤ → Verdict
shift_outcome lifts moves b = judged b (shifted lifts moves b)

abbrev pub shift_block : List ℤ → List ℤ → List ℤ → List ℤ
shift_block lifts moves b = judged_block b (shifted lifts moves b)
