-- What the lift of one train leaves at each place: the least of its permitted choices goes from its choices, one of which then costs nothing, to the constant. The block c has the shape of b
-- and its H.
use mathlib.Core.Path.{◌≡◌, refl, sym, ap, ◌∙◌}
use mathlib.Core.Bool.{true}
use mathlib.Core.List.{List}
use mathlib.Core.Logic.{◌≢◌}
use Prim.Native.Nat.{ℕ, ◌+◌, ◌-◌, ◌<◌, ◌≤◌}
use native.Mathlib.Omega.{arith}
use lib.IntN.{ℤ, pos, neg_ℤ, ◌+ℤ◌}
use Rattle.tables.specs.Block.{max_trains, constant_place, held_choice_place, held_entry_place, at, figure, trains, size, held_choice}
use Rattle.tables.specs.Plans.{shape_of}
use Rattle.tables.proofs.Study.{same_size, figure_at}
use Rattle.rewriting.specs.declared.sides.PlaceRun.{PlaceRun}
use Rattle.rewriting.specs.Moves.{ShapeInRange, RunIn, run_place, choices_run}
use Rattle.rewriting.specs.Leasts.{open_place, run_least, run_tightened, train_tightened}
use Rattle.rewriting.proofs.Runs.{Met, move_to, move_met}
use Rattle.rewriting.proofs.Shape.{SameLoaded, BetweenCosts, unary, project_between_costs, between_costs_run}
use Rattle.rewriting.proofs.Falls.{less, run_least-le, run_least_met, run_least_most, tight_is, tight_loaded, tight_other, Zero}
use Rattle.directional.proofs.Places.{Whole, choice_same, choice_natural}
use Rattle.directional.proofs.Lanes.{tight_natural}

-- what the lift of train j makes of c
pub record TrainLeft (b c e : List ℤ) (j : ℕ) : Type 0 where
  pub loaded : SameLoaded c e
  pub whole : Whole e
  pub least : ℕ
  pub raised : at e constant_place ≡ at c constant_place +ℤ pos least
  pub lowered : (a : ℕ) → a < size b j → at e (held_choice_place j a) ≡ at c (held_choice_place j a) +ℤ neg_ℤ (pos least)
  pub other : (p : ℕ) → p ≢ constant_place → ((a : ℕ) → a < size b j → p ≢ held_choice_place j a) → at e p ≡ at c p
  -- the least is no more than the permitted choices cost, and is one of them
  pub under : (a : ℕ) → a < size b j → (shape_of b).choice_open j a ≡ true → held_choice e j a + least ≡ held_choice c j a
  pub most : (high : ℕ) → ((a : ℕ) → a < size b j → (shape_of b).choice_open j a ≡ true → held_choice c j a ≤ high) → least ≤ high
  pub zero : (a : ℕ) → a < size b j → (shape_of b).choice_open j a ≡ true → Zero b e j

module _ {b : List ℤ} (s : ShapeInRange b) (j : ℕ) (h : j < trains b) (c : List ℤ) (u : SameLoaded b c) (w : Whole c) where
  abbrev r : PlaceRun
  r = choices_run b j

  between : BetweenCosts r
  between = project_between_costs s (unary j h)

  run : RunIn c r
  run = between_costs_run c w.long between

  low : j < max_trains
  low = omega (arith, s.trains)

  abbrev least : ℕ
  least = run_least r c

  met : (a : ℕ) → a < size b j → Met r (held_choice_place j a)
  met a q = record { turn = a; below = q; is = omega arith }

  in_run : (a : ℕ) → run_place r a ≡ held_choice_place j a
  in_run a = omega arith

  run_open : (a : ℕ) → a < size b j → open_place c (run_place r a) ≡ (shape_of b).choice_open j a
  run_open a q = ap (open_place c) (in_run a) ∙ choice_same s u j a low q

  lowered : (a : ℕ) → a < size b j → at (run_tightened r c) (held_choice_place j a) ≡ at c (held_choice_place j a) +ℤ neg_ℤ (pos least)
  lowered a q = rw (← tight_is r c) (move_met r (pos least) c run between.missed (held_choice_place j a) (met a q))

  under : (a : ℕ) → a < size b j → (shape_of b).choice_open j a ≡ true → held_choice (run_tightened r c) j a + least ≡ held_choice c j a
  under a q o =
      let p = held_choice_place j a in
      let g : least ≤ figure c p = run_least-le r c p (met a q) (choice_same s u j a low q ∙ o) in
      omega (
        arith,
        figure_at (run_tightened r c) p (figure c p - least)
            (lowered a q ∙ ap (λ (z : ℤ). z +ℤ neg_ℤ (pos least)) (choice_natural s u j a low q w.non_negative o) ∙ less (figure c p) least g),
        g,
      )

  left-zero : (a : ℕ) → a < size b j → (shape_of b).choice_open j a ≡ true → Zero b (run_tightened r c) j
  left-zero a q o =
      let m = run_least_met r c a q (run_open a q ∙ o) in
      let v = sym (run_open m.turn m.below) ∙ m.counts in
      record { which = m.turn; below = m.below; permitted = v; is = omega (arith, under m.turn m.below v, m.is, ap (figure c) (in_run m.turn)) }

  left : TrainLeft b c (run_tightened r c) j
  left =
      record {
        loaded = tight_loaded between c;
        whole = record { long = (tight_loaded between c).shape.whole ∙ w.long; non_negative = rw (tight_is r c) at (tight_natural between c w) };
        least = least;
        raised = rw (← tight_is r c) (move_to r (pos least) c run between.missed constant_place refl);
        lowered = lowered;
        other = λ p n k. tight_other between c p n (λ i l e. k i l (omega arith));
        under = under;
        most = λ high f. run_least_most r c high (λ i l o. omega (arith, ap (figure c) (in_run i), f i l (sym (run_open i l) ∙ o)));
        zero = left-zero;
      }

  pub train_left : TrainLeft b c (train_tightened j c) j
  train_left = rw (same_size u.shape j low) left

  -- the choices of other trains, and every entry, stay
  pub train_keeps_choice : (n a : ℕ) → n < trains b → a < size b n → n ≢ j → at (train_tightened j c) (held_choice_place n a) ≡ at c (held_choice_place n a)
  train_keeps_choice n a p q x =
      train_left.other (held_choice_place n a) (λ e. omega arith)
      (λ d y e. x (omega (arith, s.sizes n (omega (arith, s.trains)), s.sizes j (omega (arith, s.trains)))))

  pub train_keeps_entry : (k a y : ℕ) → at (train_tightened j c) (held_entry_place k a y) ≡ at c (held_entry_place k a y)
  train_keeps_entry k a y =
      train_left.other (held_entry_place k a y) (λ e. omega arith) (λ d q e. omega (arith, s.sizes j (omega (arith, s.trains)), s.trains))
