-- A tightening is a chain of moves too, and none of its open numbers falls below 0: what goes is the least open number of the run it comes from.
use mathlib.Core.Path.{◌≡◌, sym, ◌∙◌}
use mathlib.Core.List.{List}
use mathlib.Core.Bool.{true}
use mathlib.Core.Logic.{◌≢◌}
use Prim.Native.Nat.{ℕ, ◌+◌, ◌*◌, ◌<◌, ◌≤◌, ◌^◌}
use native.Mathlib.Decide.{ℕ_discrete}
use native.Mathlib.Omega.{arith}
use lib.IntN.{ℤ, pos}
use Rattle.theory.specs.Fold.{iter}
use Rattle.theory.proofs.Fold.{iter-ind}
use Rattle.tables.specs.Block.{max_trains, max_pairs, max_parts, held_choices_from, held_entries_from, trains, pairs, size, first}
use Rattle.tables.specs.Plans.{shape_of}
use Rattle.tables.proofs.Study.{same_trains, same_pairs, same_size}
use Rattle.rewriting.specs.declared.sides.Side.TheVariants.{Rows, Columns}
use Rattle.rewriting.specs.Moves.{Room, ShapeInRange, choices_run}
use Rattle.rewriting.specs.Leasts.{NonNegative, run_least, lanes_tightened, train_tightened}
use Rattle.rewriting.proofs.Runs.{room_more}
use Rattle.rewriting.proofs.Shape.{SameLoaded, shape_in_range_kept, same_lanes, lanes_most, Moved, none, moved_as, moved_loaded, moved_shape, moved_more, moved_unary, pairs_moved}
use Rattle.rewriting.proofs.Falls.{Falling, falling_start, Tight, tight_is, moved_falling, lanes_tightened_lem, trains-tightened, Zero, train_zero}
use Rattle.rewriting.proofs.Rewritten.{loaded_alike}
use Rattle.tighten.specs.Tighten.{pair_tightened, pairs_tightened}

-- ---- the fold over pairs

module _ {b : List ℤ} (s : ShapeInRange b) where
  pub pair_tightened_lem : (k n : ℕ) (c : List ℤ) → k < pairs b → Moved (Tight held_entries_from) b n c → Moved (Tight held_entries_from) b (n + 16) (pair_tightened k c)
  unfolding pair_tightened
  pair_tightened_lem k n c h w =
      let g : k < max_pairs = omega (arith, s.pairs) in
      let e = same_lanes (moved_shape s w) s k g Rows in
      let v = lanes_tightened_lem s Rows k (size c (first c k)) n c h (omega arith) w in
      let f = same_lanes (moved_shape s v) s k g Columns in
      moved_more (omega (arith, lanes_most s Rows k h, lanes_most s Columns k h))
      (lanes_tightened_lem s Columns k _ (n + size c (first c k)) (lanes_tightened Rows k c) h (omega arith) v)

  pub pairs-tightened : (m n : ℕ) (c : List ℤ) → m ≤ pairs b → Moved (Tight held_entries_from) b n c
      → Moved (Tight held_entries_from) b (n + 16 * m) (iter m pair_tightened c)
  pairs-tightened m n c l w = pairs_moved s pair_tightened pair_tightened_lem m n c l w

  -- ---- what the calls ask of the block on the way

  -- the columns of pair k, after its rows
  pub columns_asked : (k : ℕ) → NonNegative b → Room b (2 ^ 47) → k < pairs b
      → let c = lanes_tightened Rows k b in ShapeInRange c × NonNegative c × Room c (2 ^ 52) × (k < pairs c)
  columns_asked k o r h =
      let w = lanes_tightened_lem s Rows k (size b (first b k)) 0 b h (omega arith) none in
      let e = moved_shape s w in
      let f = moved_falling s (falling_start o r) w in
      (shape_in_range_kept e s, f.whole, room_more (2 ^ 52) f.most (omega (arith, lanes_most s Rows k h)), omega (arith, same_pairs e))

  -- pair k, after the pairs before it
  pub pair_asked : (k : ℕ) → NonNegative b → Room b max_parts → k < pairs b
      → let c = iter k pair_tightened b in ShapeInRange c × NonNegative c × Room c (2 ^ 47) × (k < pairs c)
  pair_asked k o r h =
      let w = pairs-tightened k 0 b (omega arith) none in
      let e = moved_shape s w in
      let f = moved_falling s (falling_start o r) w in
      (shape_in_range_kept e s, f.whole, room_more (2 ^ 47) f.most (omega (arith, s.pairs)), omega (arith, same_pairs e))

  -- the trains, after all pairs
  pub trains_asked : NonNegative b → Room b max_parts → let c = pairs_tightened b in ShapeInRange c × NonNegative c × Room c (2 ^ 50)
  trains_asked o r =
      let w = pairs-tightened (pairs b) 0 b (omega arith) none in
      let f = moved_falling s (falling_start o r) w in
      (shape_in_range_kept (moved_shape s w) s, f.whole, room_more (2 ^ 50) f.most (omega (arith, s.pairs)))

  -- train i, after the trains before it
  pub train_asked : (i : ℕ) → NonNegative b → Room b (2 ^ 50) → i < trains b
      → let c = iter i train_tightened b in ShapeInRange c × Room c (2 ^ 57) × (i < trains c)
  train_asked i o r h =
      let w = trains-tightened s i 0 b (omega arith) none in
      let e = moved_shape s w in
      (shape_in_range_kept e s, room_more (2 ^ 57) (moved_falling s (falling_start o r) w).most (omega (arith, s.trains)), omega (arith, same_trains e))

-- ---- what the trains are left with

-- a block with the shape of b and its H has the same permitted choices
pub zero_back : {b x c : List ℤ} → ShapeInRange b → SameLoaded b x → (i : ℕ) → i < trains b → Zero x c i → Zero b c i
zero_back {b} {x} s e i h z =
    let l = loaded_alike s e in
    let q : z.which < size b i = omega (arith, z.below, l.sizes_same i h) in
    record { which = z.which; below = q; permitted = l.choices_open_same i z.which h q ∙ z.permitted; is = z.is }

zero_on : {b x c : List ℤ} → ShapeInRange b → SameLoaded b x → (i : ℕ) → i < trains b → Zero b c i → Zero x c i
zero_on {b} {x} s e i h z =
    let l = loaded_alike s e in
    record { which = z.which; below = omega (arith, z.below, l.sizes_same i h); permitted = sym (l.choices_open_same i z.which h z.below) ∙ z.permitted; is = z.is }

pub trains-zero : {b : List ℤ} {high room : ℕ} → ShapeInRange b → Falling held_choices_from high room b
    → (m : ℕ) → m ≤ trains b → (i : ℕ) → i < m → (a : ℕ) → a < size b i → (shape_of b).choice_open i a ≡ true → Zero b (iter m train_tightened b) i
trains-zero {b} s f m h = (iter-ind So m train_tightened b (none, λ i l. absurd (omega arith)) turn).1
  where
    So : ℕ → List ℤ → Type 0
    So n x = Moved (Tight held_choices_from) b n x × ((i : ℕ) → i < n → (a : ℕ) → a < size b i → (shape_of b).choice_open i a ≡ true → Zero b x i)

    turn : (n : ℕ) (x : List ℤ) → n < m → So n x → So (n + 1) (train_tightened n x)
    turn n x l (w, z) =
        let e = moved_loaded s w in
        let c : n < max_trains = omega (arith, s.trains) in
        let t = train_zero (shape_in_range_kept e.shape s) (moved_falling s f w).whole n (omega (arith, same_trains e.shape)) in
        let r : Tight held_choices_from (choices_run b n) x (pos (run_least (choices_run x n) x)) =
        record { is = rw (same_size e.shape n c); below = omega arith; above = omega arith } in
        (moved_as (sym (tight_is _ x)) (moved_unary s w (n + 1) n _ (omega arith) (omega arith) r), zeros e t)
      where
        zeros : SameLoaded b x
            → ((a : ℕ) → a < size x n → (shape_of x).choice_open n a ≡ true → Zero x (train_tightened n x) n) × ((j : ℕ) → j < trains x → j ≢ n → Zero x x j → Zero x (train_tightened n x) j)
            → (i : ℕ) → i < n + 1 → (a : ℕ) → a < size b i → (shape_of b).choice_open i a ≡ true → Zero b (train_tightened n x) i
        zeros e t i q a g o = by (ℕ_discrete i n)
          where
            k : i < trains b
            k = omega arith

            by : Dec (i ≡ n) → Zero b (train_tightened n x) i
            by (yes r) =
                let u = loaded_alike s e in
                let d : a < size b n = rw r at g in
                let y : a < size x n = omega (arith, u.sizes_same n (omega arith)) in
                rw r (zero_back s e n (omega arith) (t.0 a y (sym (u.choices_open_same n a (omega arith) d) ∙ (rw r at o))))
            by (no r) = zero_back s e i k (t.1 i (omega (arith, same_trains e.shape)) r (zero_on s e i k (z i (omega arith) a g o)))
