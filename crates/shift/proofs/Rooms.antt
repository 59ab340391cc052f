-- A shift is a chain of moves, and what they leave is not far from 0.
use mathlib.Core.Path.{◌≡◌, sym, ap, ◌∙◌}
use mathlib.Core.List.{List}
use Prim.Native.Nat.{ℕ, ◌+◌, ◌*◌, ◌<◌, ◌≤◌, ◌^◌}
use native.Mathlib.Omega.{arith}
use lib.IntN.{ℤ}
use lib.ListN.{length}
use lib.Signed.{mag}
use mir.Syntax.{w64}
use mir.Val.{to_z, of_z}
use Rattle.theory.specs.Fold.{iter}
use Rattle.theory.proofs.Sum.{sum_cong}
use Rattle.tables.specs.Block.{max_pairs, max_parts, at, trains, pairs, size, first, second}
use Rattle.tables.specs.LineLimits.{max_move}
use Rattle.tables.specs.Plans.{shape_of}
use Rattle.tables.specs.Counts.{pair_moves, moves_before, move_count}
use Rattle.tables.proofs.Study.{SameShape, same_trains, same_pairs}
use Rattle.rewriting.specs.declared.sides.PlaceRun.{PlaceRun}
use Rattle.rewriting.specs.declared.sides.Side.{Side}
use Rattle.rewriting.specs.declared.sides.Side.TheVariants.{Rows, Columns}
use Rattle.rewriting.specs.Moves.{Room, ShapeInRange, lane_train, project, project_unary}
use Rattle.rewriting.proofs.Words.{back}
use Rattle.rewriting.proofs.Runs.{room_more, move_room}
use Rattle.rewriting.proofs.Shape.{shape_in_range_kept, same_lanes, lanes_most, project_between_costs, between_costs_run, Asked, Moved, none, move, moved_shape, moved_more, lanes_moved, trains_moved, pairs_moved, all_moves}
use Rattle.shift.specs.Shift.{SmallMoves, lifted, lanes_shifted, pair_shifted, shifted}

-- ---- moves of at most 10^12

abbrev pub Small : Asked
Small r c α = mag α ≤ max_move

-- what a place may gain by one move
abbrev pub per_move : ℕ
per_move = 2 * max_move + 3

pub moved_room : {b : List ℤ} → ShapeInRange b → (h : ℕ) → Room b h → {n : ℕ} {c : List ℤ} → Moved Small b n c → Room c (h + n * per_move)
moved_room s h o {n} none = room_more (h + n * per_move) o (omega arith)
moved_room s h o (move {m} {n} {run} {c} α l p r w) =
    room_more (h + n * per_move)
    (move_room run α c (between_costs_run c ((moved_shape s w).whole ∙ s.whole) (project_between_costs s p)) (h + m * per_move) (moved_room s h o w))
    (omega arith)

-- ---- a shift

module _ {R : Asked} {b : List ℤ} (s : ShapeInRange b) where
  module _ (moves : List ℤ) (r : (run : PlaceRun) (x : List ℤ) (i : ℕ) → R run x (at moves i)) where
    -- the moves of one side of pair k
    pub lanes_shifted_lem : (side : Side) (start k m n : ℕ) (c : List ℤ) → k < pairs b → m ≤ size b (lane_train side b k) → Moved R b n c
        → Moved R b (n + m) (iter m (λ x. project side k x (at moves (start + x))) c)
    lanes_shifted_lem side start k m n c h l w = lanes_moved s (λ x y. at moves (start + x)) side k h (λ x y e q. r _ y (start + x)) m n c l w

    pub lifts_moved : (m n : ℕ) (c : List ℤ) → m ≤ trains b → Moved R b n c → Moved R b (n + m) (iter m (λ i. project_unary i (at moves i)) c)
    lifts_moved m n c l w = trains_moved s (λ i x. at moves i) (λ i x e q. r _ x i) m n c l w

    pub pair_shifted_lem : (start k n : ℕ) (c : List ℤ) → k < pairs b → Moved R b n c → Moved R b (n + 16) (pair_shifted moves start k c)
    unfolding pair_shifted
    pair_shifted_lem start k n c h w =
        let g : k < max_pairs = omega (arith, s.pairs) in
        let e = same_lanes (moved_shape s w) s k g Rows in
        let v = lanes_shifted_lem Rows start k (size c (first c k)) n c h (omega arith) w in
        let f = same_lanes (moved_shape s v) s k g Columns in
        moved_more (omega (arith, lanes_most s Rows k h, lanes_most s Columns k h))
        (lanes_shifted_lem Columns (start + size c (first c k)) k _ (n + size c (first c k)) (lanes_shifted Rows moves start k c) h (omega arith) v)

    pub pairs-shifted : (start : ℕ → ℕ) (m n : ℕ) (c : List ℤ) → m ≤ pairs b → Moved R b n c
        → Moved R b (n + 16 * m) (iter m (λ k. pair_shifted moves (start k) k) c)
    pairs-shifted start m n c l w = pairs_moved s (λ k. pair_shifted moves (start k) k) (λ k i x h v. pair_shifted_lem (start k) k i x h v) m n c l w

pub same_start : {b c : List ℤ} → SameShape b c → ShapeInRange b → (k : ℕ) → k ≤ max_pairs → moves_before (shape_of c) k ≡ moves_before (shape_of b) k
same_start {b} {c} e s k h =
    sum_cong k (pair_moves (shape_of c)) (pair_moves (shape_of b))
    (λ l q. omega (arith, same_lanes e s l (omega arith) Rows, same_lanes e s l (omega arith) Columns))

pub same_count : {b c : List ℤ} → SameShape b c → ShapeInRange b → move_count (shape_of c) ≡ move_count (shape_of b)
same_count {b} {c} e s = ap (moves_before (shape_of c)) (same_pairs e) ∙ same_start e s (pairs b) s.pairs

-- ---- what the calls ask of the block on the way, where lifts and moves are small

-- a small number is read as it is
small_word : {l : List ℤ} (i : ℕ) → SmallMoves l → mag (to_z w64 (of_z w64 (at l i))) < 2 ^ 58
small_word {l} i m = let q = m.small i in rw (back (at l i) (omega arith)) (omega arith)

module _ {b moves : List ℤ} (s : ShapeInRange b) (m : SmallMoves moves) where
  lifts_way : (i : ℕ) → i ≤ trains b → Moved Small b (0 + i) (iter i (λ j. project_unary j (at moves j)) b)
  lifts_way i h = lifts_moved s moves (λ r y j. m.small j) i 0 b h none

  lanes_way : (side : Side) (start k x : ℕ) → k < pairs b → x ≤ size b (lane_train side b k) → Moved Small b (0 + x) (iter x (λ y. project side k y (at moves (start + y))) b)
  lanes_way side start k x h l = lanes_shifted_lem s moves (λ r y j. m.small j) side start k x 0 b h l none

  pairs_way : (k : ℕ) → k ≤ pairs b → Moved Small b (0 + 16 * k) (iter k (λ l. pair_shifted moves (moves_before (shape_of b) l) l) b)
  pairs_way k h = pairs-shifted s moves (λ r y j. m.small j) (moves_before (shape_of b)) k 0 b h none

  -- the lift of train i, after those of the trains before it
  pub lift_asked : (i : ℕ) → Room b max_parts → i < trains b
      → let c = iter i (λ j. project_unary j (at moves j)) b in ShapeInRange c × Room c (2 ^ 59) × (i < trains c) × (mag (to_z w64 (of_z w64 (at moves i))) < 2 ^ 58)
  lift_asked i o h =
      let w = lifts_way i (omega arith) in
      let e = moved_shape s w in
      (shape_in_range_kept e s, room_more (2 ^ 59) (moved_room s max_parts o w) (omega (arith, s.trains)), omega (arith, same_trains e), small_word i m)

  -- the moves of the pairs, after the lifts
  pub pairs_asked : (rest : List ℤ) → Room b max_parts → length rest ≡ move_count (shape_of b)
      → let c = lifted moves b in ShapeInRange c × Room c (2 ^ 48) × (length rest ≡ move_count (shape_of c))
  pairs_asked rest o l =
      let w = lifts_way (trains b) (omega arith) in
      let e = moved_shape s w in
      (shape_in_range_kept e s, room_more (2 ^ 48) (moved_room s max_parts o w) (omega (arith, s.trains)), l ∙ sym (same_count e s))

  -- the move of lane x, after those of the lanes before it
  pub lane_asked : (side : Side) (start k x : ℕ) → Room b (2 ^ 53) → k < pairs b → x < size b (lane_train side b k)
      → let c = iter x (λ y. project side k y (at moves (start + y))) b in
      ShapeInRange c × Room c (2 ^ 59) × (k < pairs c) × (x < size c (lane_train side c k)) × (mag (to_z w64 (of_z w64 (at moves (start + x)))) < 2 ^ 58)
  lane_asked side start k x o h l =
      let w = lanes_way side start k x h (omega arith) in
      let e = moved_shape s w in (
        shape_in_range_kept e s,
        room_more (2 ^ 59) (moved_room s (2 ^ 53) o w) (omega (arith, lanes_most s side k h)),
        omega (arith, same_pairs e),
        omega (arith, same_lanes e s k (omega (arith, s.pairs)) side),
        small_word (start + x) m,
      )

  -- the columns of pair k, after its rows
  module _ (start k : ℕ) (h : k < pairs b) where
    rows_way : Moved Small b (0 + size b (first b k)) (lanes_shifted Rows moves start k b)
    rows_way = lanes_way Rows start k (size b (first b k)) h (omega arith)

    pub columns_asked : Room b (2 ^ 52) → let c = lanes_shifted Rows moves start k b in ShapeInRange c × Room c (2 ^ 53) × (k < pairs c)
    columns_asked o =
        let e = moved_shape s rows_way in
        (shape_in_range_kept e s, room_more (2 ^ 53) (moved_room s (2 ^ 52) o rows_way) (omega (arith, lanes_most s Rows k h)), omega (arith, same_pairs e))

    pub columns_kept : {c : List ℤ} → c ≡ lanes_shifted Rows moves start k b → size c (second c k) ≡ size b (second b k)
    columns_kept e = rw e (same_lanes (moved_shape s rows_way) s k (omega (arith, s.pairs)) Columns)

  -- pair k, after the pairs before it
  module _ (k : ℕ) (h : k < pairs b) where
    pub pair_asked : Room b (2 ^ 48)
        → let c = iter k (λ l. pair_shifted moves (moves_before (shape_of b) l) l) b in ShapeInRange c × Room c (2 ^ 52) × (k < pairs c)
    pair_asked o =
        let w = pairs_way k (omega arith) in
        let e = moved_shape s w in
        (shape_in_range_kept e s, room_more (2 ^ 52) (moved_room s (2 ^ 48) o w) (omega (arith, s.pairs)), omega (arith, same_pairs e))

    pub pair_kept : {c : List ℤ} → c ≡ iter k (λ l. pair_shifted moves (moves_before (shape_of b) l) l) b → pair_moves (shape_of c) k ≡ pair_moves (shape_of b) k
    pair_kept q =
        let e = moved_shape s (pairs_way k (omega arith)) in
        let g : k < max_pairs = omega (arith, s.pairs) in
        rw q (omega (arith, same_lanes e s k g Rows, same_lanes e s k g Columns))

-- ---- the whole chain

pub shift_moved : {R : Asked} {b : List ℤ} → ShapeInRange b → (lifts moves : List ℤ)
    → ((run : PlaceRun) (x : List ℤ) (i : ℕ) → R run x (at lifts i))
    → ((run : PlaceRun) (x : List ℤ) (i : ℕ) → R run x (at moves i))
    → Moved R b all_moves (shifted lifts moves b)
unfolding shifted
shift_moved {R} {b} s lifts moves q r =
    let w = lifts_moved s lifts q (trains b) 0 b (omega arith) none in
    let e = same_pairs (moved_shape s w) in
    moved_more (omega (arith, s.trains, s.pairs))
    (pairs-shifted s moves r (moves_before (shape_of (lifted lifts b))) (pairs (lifted lifts b)) (0 + trains b) (lifted lifts b) (omega arith) w)
