-- While a round goes on: it is a chain of moves from where it began, no open number is below 0, and the heights stay. A turn of a pair keeps this, and so does a lift.
use mathlib.Core.Path.{◌≡◌, sym, ap, ◌∙◌}
use mathlib.Core.List.{List}
use mathlib.Core.Logic.{◌≢◌}
use Prim.Native.Nat.{ℕ, ◌+◌, ◌<◌, ◌≤◌, ◌^◌}
use native.Mathlib.Decide.{ℕ_discrete}
use native.Mathlib.Omega.{arith}
use lib.IntN.{ℤ, pos, neg_ℤ}
use borrow.Author.Tests.{eq-eqb, ne_eqb}
use Rattle.theory.specs.Fold.{iter}
use Rattle.theory.proofs.Fold.{iter-ind}
use Rattle.tables.specs.Block.{trains, pairs, size, first, second}
use Rattle.tables.proofs.Study.{same_trains, same_pairs, same_first, same_second}
use Rattle.rewriting.specs.declared.sides.Side.TheVariants.{Rows, Columns}
use Rattle.rewriting.specs.Moves.{Room, ShapeInRange, NonEmpty, lane_run, choices_run}
use Rattle.rewriting.specs.Leasts.{NonNegative, run_least, run_tightened, lanes_tightened, train_tightened}
use Rattle.rewriting.proofs.Runs.{room_more}
use Rattle.rewriting.proofs.Shape.{SameLoaded, shape_in_range_kept, non_empty_kept, same_lanes, Moved, none, moved_loaded, moved_shape, moved_unary, lanes_moved, Any}
use Rattle.directional.specs.Directional.{cost_taken, columns_taken, pair_round, pair_turn, pairs_round, train_round}
use Rattle.directional.specs.Heights.{max_heights, Heights, Ascending, Ready}
use Rattle.directional.proofs.Places.{Whole}
use Rattle.directional.proofs.Pair.{pair_left}
use Rattle.directional.proofs.Train.{train_left}
use Rattle.directional.proofs.Heights.{heights_map, heights_shape, heights_room, heights_pair, heights_lift}

-- how far a round has come from b
pub record Progress (b : List ℤ) (waiting : ℕ → Type 0) (c : List ℤ) : Type 0 where
  pub moves : ℕ
  pub chain : Moved Any b moves c
  pub whole : Whole c
  pub heights : Heights b waiting c

pub progress_map : {b c : List ℤ} {W W' : ℕ → Type 0} → ((k : ℕ) → W' k → W k) → Progress b W c → Progress b W' c
progress_map f g = record { moves = g.moves; chain = g.chain; whole = g.whole; heights = heights_map f g.heights }

pub progress_loaded : {b c : List ℤ} {W : ℕ → Type 0} → ShapeInRange b → Progress b W c → SameLoaded b c
progress_loaded s g = moved_loaded s g.chain

pub progress_room : {b c : List ℤ} {W : ℕ → Type 0} (h : ℕ) → max_heights ≤ h → Progress b W c → Room c h
progress_room h l g = room_more h (heights_room g.heights) l

-- the pairs that wait while train j has its turn: those of lower second trains, and its own from pair m on
abbrev pub Waiting : List ℤ → ℕ → ℕ → ℕ → Type 0
Waiting b j m k = (second b k ≤ j) × (second b k ≡ j → m ≤ k)

-- where the turn of train j may begin
pub progress_ready : {b : List ℤ} {j : ℕ} → Ready b j → Progress b (Waiting b j 0) b
progress_ready {b} r =
    record {
      moves = 0;
      chain = none;
      whole = record { long = r.shape_in_range.whole; non_negative = r.non_negative };
      heights = heights_map (λ k v. omega arith) r.heights;
    }

pub ready_progress : {b c : List ℤ} {j : ℕ} → ShapeInRange b → NonEmpty b → Ascending b → Progress b (λ k. second b k < j + 1) c → Ready c j
ready_progress {b} {c} {j} s o asc g =
    let e = progress_loaded s g in
    let u = e.shape in
    record {
      shape_in_range = shape_in_range_kept u s;
      non_empty = non_empty_kept u s o;
      ascending = record {
        ascends = λ k h. let l : k < pairs b = omega (arith, same_pairs u) in
            omega (arith, asc.ascends k l, same_first u k (omega (arith, s.pairs)), same_second u k (omega (arith, s.pairs)));
      };
      non_negative = g.whole.non_negative;
      heights = heights_shape s e (λ k h v. omega (arith, same_second u k (omega (arith, s.pairs)))) g.heights;
    }

-- a pair's turn, or none
pub turn_yes : (j k : ℕ) (c : List ℤ) → second c k ≡ j → pair_turn j k c ≡ pair_round k c
unfolding pair_turn
turn_yes j k c e = rw (eq-eqb (second c k) j e)

pub turn_no : (j k : ℕ) (c : List ℤ) → second c k ≢ j → pair_turn j k c ≡ c
unfolding pair_turn
turn_no j k c n = rw (ne_eqb (second c k) j n)

-- fewer wait after it
pub waiting_fewer : (b : List ℤ) (j m k : ℕ) → Waiting b j (m + 1) k → Waiting b j m k
waiting_fewer b j m k (p, q) = (p, λ e. omega (arith, q e))

module _ {b : List ℤ} (s : ShapeInRange b) where
  columns_chain : (k n : ℕ) (c : List ℤ) → k < pairs b → Moved Any b n c → Moved Any b (n + size c (second c k)) (columns_taken k c)
  columns_chain k n c h w =
      let e = same_lanes (moved_shape s w) s k (omega (arith, s.pairs)) Columns in
      lanes_moved s (λ x y. neg_ℤ (pos (cost_taken y (second y k) x))) Columns k h (λ x y u q. tt) (size c (second c k)) n c (omega arith) w

  rows_chain : (k n : ℕ) (c : List ℤ) → k < pairs b → Moved Any b n c → Moved Any b (n + size c (first c k)) (lanes_tightened Rows k c)
  unfolding run_tightened
  rows_chain k n c h w =
      let e = same_lanes (moved_shape s w) s k (omega (arith, s.pairs)) Rows in
      lanes_moved s (λ x y. pos (run_least (lane_run Rows y k x) y)) Rows k h (λ x y u q. tt) (size c (first c k)) n c (omega arith) w

  pair_chain : (k n : ℕ) (c : List ℤ) → k < pairs b → Moved Any b n c
      → Moved Any b (n + size c (second c k) + size (columns_taken k c) (first (columns_taken k c) k)) (pair_round k c)
  unfolding pair_round
  pair_chain k n c h w = rows_chain k (n + size c (second c k)) (columns_taken k c) h (columns_chain k n c h w)

  train_chain : (j n : ℕ) (c : List ℤ) → j < trains b → Moved Any b n c → Moved Any b (n + 1) (train_tightened j c)
  unfolding run_tightened
  train_chain j n c h w = moved_unary s w (n + 1) j (pos (run_least (choices_run c j) c)) (omega arith) h tt

  module _ (o : NonEmpty b) (asc : Ascending b) where
    progress_pair : {W W' : ℕ → Type 0} (k : ℕ) → k < pairs b → (c : List ℤ) → W k → ((m : ℕ) → W' m → W m × (m ≢ k)) → Progress b W c → Progress b W' (pair_round k c)
    progress_pair k h c here fewer g =
        let u = progress_loaded s g in
        record {
          moves = g.moves + size c (second c k) + size (columns_taken k c) (first (columns_taken k c) k);
          chain = pair_chain k g.moves c h g.chain;
          whole = (pair_left s k h (asc.ascends k h) c u g.whole).whole;
          heights = heights_pair s o k h (asc.ascends k h) c u g.whole g.heights here fewer;
        }

    -- pair k, while train j has its turn
    pub progress_turn : (j k : ℕ) → k < pairs b → (c : List ℤ) → Progress b (Waiting b j k) c → Progress b (Waiting b j (k + 1)) (pair_turn j k c)
    progress_turn j k h c g = by (ℕ_discrete (second b k) j)
      where
        e : second c k ≡ second b k
        e = same_second (progress_loaded s g).shape k (omega (arith, s.pairs))

        by : Dec (second b k ≡ j) → Progress b (Waiting b j (k + 1)) (pair_turn j k c)
        by (yes q) =
            rw (turn_yes j k c (e ∙ q))
            (progress_pair k h c (omega arith, λ z. omega arith)
            (λ m v. (waiting_fewer b j k m v, λ z. let l : k + 1 ≤ m = v.1 (ap (second b) z ∙ q) in omega arith)) g)
        by (no q) = rw (turn_no j k c (λ z. q (sym e ∙ z))) (progress_map (waiting_fewer b j k) g)

    -- the first n pairs, and all of them
    pub progress_part : (j n : ℕ) → n ≤ pairs b → (c : List ℤ) → Progress b (Waiting b j 0) c → Progress b (Waiting b j n) (iter n (pair_turn j) c)
    progress_part j n l c g = iter-ind (λ m x. Progress b (Waiting b j m) x) n (pair_turn j) c g (λ m x h v. progress_turn j m (omega arith) x v)

    pub progress_pairs : (j : ℕ) (c : List ℤ) → Progress b (Waiting b j 0) c → Progress b (Waiting b j (pairs b)) (pairs_round j c)
    progress_pairs j c g = rw (same_pairs (progress_loaded s g).shape) (progress_part j (pairs b) (omega arith) c g)

    pub progress_lift : {W : ℕ → Type 0} (j : ℕ) → j < trains b → (c : List ℤ) → Progress b W c → Progress b W (train_tightened j c)
    progress_lift j h c g =
        let u = progress_loaded s g in
        record {
          moves = g.moves + 1;
          chain = train_chain j g.moves c h g.chain;
          whole = (train_left s j h c u g.whole).whole;
          heights = heights_lift s o j h c u g.whole g.heights;
        }

    pub progress_train : (j : ℕ) → j < trains b → (c : List ℤ) → Progress b (λ k. second b k < j + 1) c → Progress b (λ k. second b k < j) (train_round j c)
    unfolding train_round
    progress_train j h c g =
        progress_map (λ k l. (omega arith, λ e. omega arith))
        (progress_lift j h (pairs_round j c) (progress_pairs j c (progress_map (λ k v. omega arith) g)))

-- ---- what the calls ask of the block on the way

module _ {b : List ℤ} {j : ℕ} (r : Ready b j) (n : ℕ) where
  after : n ≤ pairs b → Progress b (Waiting b j n) (iter n (pair_turn j) b)
  after l = progress_part r.shape_in_range r.non_empty r.ascending j n l b (progress_ready r)

  -- pair n, after the pairs before it
  pub turn_asked : n < pairs b → let c = iter n (pair_turn j) b in ShapeInRange c × NonNegative c × Room c (2 ^ 47) × (n < pairs c)
  turn_asked l =
      let p = after (omega arith) in
      let e = (progress_loaded r.shape_in_range p).shape in
      (shape_in_range_kept e r.shape_in_range, p.whole.non_negative, progress_room (2 ^ 47) (omega arith) p, omega (arith, same_pairs e))

  -- the lift of train j, after n pairs
  pub lift_asked : n ≤ pairs b → j < trains b → let c = iter n (pair_turn j) b in ShapeInRange c × Room c (2 ^ 57) × (j < trains c)
  lift_asked l h =
      let p = after l in
      let e = (progress_loaded r.shape_in_range p).shape in
      (shape_in_range_kept e r.shape_in_range, progress_room (2 ^ 57) (omega arith) p, omega (arith, same_trains e))
