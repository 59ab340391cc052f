-- A shift ends where document 01's three equations say, because its turns are those of Turns.antt of `rewriting`, and what goes in each is a number of the line, whatever the block is.
-- For every size; b is a study, which holds natural numbers at its permitted entries.
use mathlib.Core.Path.{◌≡◌, ap, ap₂, ◌∙◌}
use mathlib.Core.List.{List}
use mathlib.Core.Logic.{◌↔◌}
use Prim.Native.Nat.{ℕ, ◌+◌, ◌<◌}
use native.Mathlib.Omega.{arith}
use lib.IntN.{ℤ, ◌+ℤ◌, ◌-ℤ◌}
use Rattle.theory.specs.Whole.{sumℤ}
use Rattle.theory.specs.Fold.{iter}
use Rattle.refusals.specs.declared.Refusal.TheVariants.{PartsOutside}
use Rattle.refusals.specs.Verdicts.{Fine, Declined}
use Rattle.tables.specs.Block.{constant_place, held_choice_place, held_entry_place, at, trains, pairs, size, first, second}
use Rattle.tables.specs.Plans.{shape_of, held_costs}
use Rattle.tables.specs.Counts.{moves_before, move_count}
use Rattle.tables.specs.WellFormed.{Study}
use Rattle.tables.proofs.Counting.{moves_part}
use Rattle.tables.proofs.Study.{same_pairs, first-below-second}
use Rattle.rewriting.specs.declared.sides.Side.TheVariants.{Rows, Columns}
use Rattle.rewriting.specs.Moves.{ShapeInRange}
use Rattle.rewriting.specs.Ends.{ends_of, SameEnds, Forbidden, Outside, SomeEnd}
use Rattle.rewriting.proofs.Shape.{study_shape_in_range, SameLoaded, loaded_same, same_lanes}
use Rattle.rewriting.proofs.Holds.{Holds, study_held}
use Rattle.rewriting.proofs.Turns.{pair_turned, trains_shape_lem, trains-constant, trains_choice, trains_high, pairs-constant, pairs_choice, pairs_entry}
use Rattle.rewriting.proofs.Rewritten.{judged_forbidden}
use Rattle.rewriting.proofs.Judged.{done_unless, judged-outside, judged_ends}
use Rattle.shift.specs.Shift.{lifted, lanes_shifted, pair_shifted, shifted, shift_outcome, shift_block}
use Rattle.shift.specs.Equations.{row_move, column_move, moves_of, shift_ends}
use Rattle.shift.proofs.Rooms.{same_start}
use Rattle.shift.proofs.Ends.{shift_rewrites}

module _ {b : List ℤ} (o : Study b) (lifts moves : List ℤ) where
  s : ShapeInRange b
  s = study_shape_in_range o

  abbrev lift : ℕ → List ℤ → ℤ
  lift i z = at lifts i

  -- after the lifts
  abbrev c : List ℤ
  c = lifted lifts b

  v : SameLoaded b c
  v = trains_shape_lem s lift b (loaded_same b)

  -- the turn of pair k, which finds the shape of b
  abbrev turn : ℕ → List ℤ → List ℤ
  turn k = pair_shifted moves (moves_before (shape_of c) k) k

  abbrev row : ℕ → ℕ → List ℤ → ℤ
  row k a z = row_move (at moves) b k a

  abbrev column : ℕ → ℕ → List ℤ → ℤ
  column k d z = column_move (at moves) b k d

  turn_is : (k : ℕ) (z : List ℤ) → k < pairs b → SameLoaded b z → turn k z ≡ pair_turned k (row k) (column k) z
  unfolding pair_shifted
  turn_is k z h u =
      ap₂ (λ (n l : ℕ). lanes_shifted Columns moves (n + l) k (lanes_shifted Rows moves n k z)) (same_start v.shape s k (omega (arith, s.pairs)))
      (same_lanes u.shape s k (omega (arith, s.pairs)) Rows)

  shifted_is : shifted lifts moves b ≡ iter (pairs b) turn c
  unfolding shifted
  shifted_is = ap (λ (n : ℕ). iter n turn c) (same_pairs v.shape)

  by_shifted : (p : ℕ) {y z : ℤ} → at (iter (pairs b) turn c) p ≡ y → y ≡ z → at (shifted lifts moves b) p ≡ z
  by_shifted p e f = ap (λ (y : List ℤ). at y p) shifted_is ∙ e ∙ f

  x : Holds (shape_of b) b (held_costs b)
  x = study_held o

  -- a forbidden entry stays so, accepted or not
  pub shift_forbidden : Forbidden b (ends_of (shift_block lifts moves b))
  shift_forbidden = judged_forbidden o (shift_rewrites o lifts moves)

  -- u and p are the lifts and the moves, as far as the trains and pairs of b go
  module _ (u p : ℕ → ℤ) (lifts-are : (i : ℕ) → i < trains b → at lifts i ≡ u i) (moves-are : (n : ℕ) → n < move_count (shape_of b) → at moves n ≡ p n) where
    row_is : (k a : ℕ) → k < pairs b → a < size b (first b k) → row_move (at moves) b k a ≡ row_move p b k a
    row_is k a h q = moves-are (moves_before (shape_of b) k + a) (omega (arith, moves_part (shape_of b) k (pairs b) h))

    column_is : (k d : ℕ) → k < pairs b → d < size b (second b k) → column_move (at moves) b k d ≡ column_move p b k d
    column_is k d h q = moves-are (moves_before (shape_of b) k + size b (first b k) + d) (omega (arith, moves_part (shape_of b) k (pairs b) h))

    -- the three equations, of the end before it is judged
    pub shifted_ends : SameEnds b (ends_of (shifted lifts moves b)) (shift_ends u p b)
    unfolding held_costs
    shifted_ends =
        record {
          constant = by_shifted constant_place (pairs-constant s (first-below-second o) row column turn turn_is c v)
              (trains-constant s lift b (loaded_same b) u (λ i h z w e. lifts-are i h) ∙ ap (λ (z : ℤ). z +ℤ sumℤ (trains b) u) x.constant);
          choice = λ i a h q t. by_shifted (held_choice_place i a)
              (pairs_choice s (first-below-second o) row column turn turn_is c v (row_move p b) (column_move p b) (λ k g y l z w e. row_is k y g l) (λ k g y l z w e. column_is k y g l) i a h q)
              (ap (λ (z : ℤ). z +ℤ moves_of p b i a)
              (trains_choice s lift b (loaded_same b) u (λ j g z w e. lifts-are j g) i a h q ∙ ap (λ (z : ℤ). z -ℤ u i) (x.choices i a h q t)));
          entry = λ k a d h q r t. by_shifted (held_entry_place k a d)
              (pairs_entry s (first-below-second o) row column turn turn_is c v (row_move p b) (column_move p b) (λ l g y m z w e. row_is l y g m) (λ l g y m z w e. column_is l y g m) k a d h q r)
              (ap (λ (z : ℤ). (z -ℤ row_move p b k a) -ℤ column_move p b k d)
              (trains_high s lift b (loaded_same b) (held_entry_place k a d) (omega arith) ∙ x.entries k a d h q r t));
        }

    -- 12, 'c0 or an entry would end below 0 or above L': exactly then. Not below 0, of choices and entries, are the two conditions of Theorem 4.2
    pub shift_declined : (shift_outcome lifts moves b ≡ Declined PartsOutside) ↔ SomeEnd Outside b (shift_ends u p b)
    shift_declined = judged-outside o (shift_rewrites o lifts moves) (shift_ends u p b) shifted_ends

    -- and accepted exactly where none does
    pub shift_accepted : (shift_outcome lifts moves b ≡ Fine) ↔ (SomeEnd Outside b (shift_ends u p b) → ⊥)
    shift_accepted = done_unless b (shifted lifts moves b) shift_declined

    -- the three equations, of the accepted block
    pub shift_ends_lem : shift_outcome lifts moves b ≡ Fine → SameEnds b (ends_of (shift_block lifts moves b)) (shift_ends u p b)
    shift_ends_lem = judged_ends o (shift_rewrites o lifts moves) (shift_ends u p b) shifted_ends
