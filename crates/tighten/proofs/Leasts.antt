-- A tightening ends where '04 tighten' says, because its turns are those of Turns.antt of `rewriting`: each finds its run as it was, and what goes is the run's least. At permitted entries all
-- numbers are natural.
use mathlib.Core.Path.{◌≡◌, refl, ap, ap₂, ◌∙◌}
use mathlib.Core.Bool.{Bool, true, false, cond}
use mathlib.Core.List.{List}
use mathlib.Core.Logic.{◌↔◌}
use Prim.Native.Nat.{ℕ, zero, suc, ◌+◌, ◌-◌, ◌<◌, ◌≤◌}
use native.Mathlib.Nat.{add-zero}
use native.Mathlib.Decide.{ℕ_discrete}
use native.Mathlib.Omega.{arith}
use lib.Dec.{ltb}
use lib.IntN.{ℤ, pos, negsuc, ◌+ℤ◌, ◌-ℤ◌}
use borrow.Author.Tests.{ltb-true, eq-eqb, ne_eqb}
use Rattle.theory.specs.Sum.{sum}
use Rattle.theory.specs.Fold.{iter}
use Rattle.theory.proofs.Whole.{sumℤ_pos}
use Rattle.refusals.specs.declared.Refusal.TheVariants.{PartsOutside}
use Rattle.refusals.specs.Verdicts.{Fine, Declined}
use Rattle.tables.specs.Block.{max_pairs, constant_place, held_choice_place, held_entry_place, at, nat, figure, trains, pairs, size, first, second, constant, held_choice, held_entry}
use Rattle.tables.specs.Plans.{shape_of, held_costs}
use Rattle.tables.specs.WellFormed.{Study}
use Rattle.tables.proofs.Study.{same_pairs, same_first, same_second, same_figure, first-below-second}
use Rattle.rewriting.specs.declared.sides.PlaceRun.{PlaceRun}
use Rattle.rewriting.specs.declared.sides.Side.{Side}
use Rattle.rewriting.specs.declared.sides.Side.TheVariants.{Rows, Columns}
use Rattle.rewriting.specs.Ends.{of_pair, ends_of, SameEnds, Forbidden, Above, SomeEnd}
use Rattle.rewriting.specs.Moves.{ShapeInRange, run_place, lane_train, lane_run, choices_run}
use Rattle.rewriting.specs.Leasts.{open_place, least_open, run_least, run_tightened}
use Rattle.rewriting.proofs.Shape.{study_shape_in_range, SameLoaded, loaded_same, shape_in_range_kept, lanes_most}
use Rattle.rewriting.proofs.Steps.{across_train, lane_place, lane_same, choices_same}
use Rattle.rewriting.proofs.Opens.{open_choice, open_entry, open_same}
use Rattle.rewriting.proofs.LeastOpen.{least_open_cong}
use Rattle.rewriting.proofs.Holds.{Holds, study_held, non_negative_held}
use Rattle.rewriting.proofs.Turns.{of_map, RowSent, ColumnSent, pair_turned, trains_turned, pair_constant, pair_choice, pair_entry, pair_entry_other, pairs_shape, pairs-constant, pairs_choice, pairs_entry, trains-constant, trains_choice, trains_high}
use Rattle.rewriting.proofs.Rewritten.{judged_forbidden}
use Rattle.rewriting.proofs.Judged.{done_unless, judged_above, judged_ends}
use Rattle.tighten.specs.Tighten.{pair_tightened, pairs_tightened, trains_tightened, tightened, tighten_outcome, tighten_block}
use Rattle.tighten.specs.Leasts.{row_least, rest_least, gain, entry_left, pair_ends, train_least, trains_ends, tighten_ends}
use Rattle.tighten.proofs.Ends.{pairs_natural, tighten_rewrites, tighten_natural}

-- ---- leasts

-- the least of a run, by its open places and their figures
run_least_is : (r : PlaceRun) (c : List ℤ) (o : ℕ → Bool) (f : ℕ → ℕ) → ((i : ℕ) → i < r.count → open_place c (run_place r i) ≡ o i)
    → ((i : ℕ) → i < r.count → o i ≡ true → figure c (run_place r i) ≡ f i) → run_least r c ≡ least_open r.count o f
unfolding run_least
run_least_is r c o f h e = least_open_cong r.count (λ i. open_place c (run_place r i)) o (λ i. figure c (run_place r i)) f h e

-- a difference, as a figure
nat_less : (m n : ℕ) → nat (pos m -ℤ pos n) ≡ m - n
nat_less m zero = rw add-zero (omega arith)
nat_less m (suc n) = go (ltb m (suc n)) refl
  where
    go : (t : Bool) → ltb m (suc n) ≡ t → nat (cond t (negsuc (suc n - suc m)) (pos (m - suc n))) ≡ m - suc n
    go true e = let h : m < suc n = ltb-true m (suc n) e in omega arith
    go false e = refl

-- ---- what goes in each turn

abbrev from_row : ℕ → ℕ → List ℤ → ℤ
from_row k a z = pos (run_least (lane_run Rows z k a) z)

abbrev from_column : ℕ → ℕ → List ℤ → ℤ
from_column k d z = pos (run_least (lane_run Columns z k d) z)

abbrev from_train : ℕ → List ℤ → ℤ
from_train i z = pos (run_least (choices_run z i) z)

pair_is : (k : ℕ) (z : List ℤ) → pair_tightened k z ≡ pair_turned k (from_row k) (from_column k) z
unfolding pair_tightened run_tightened
pair_is k z = refl

trains_is : (x : List ℤ) → trains_tightened x ≡ trains_turned from_train x
unfolding run_tightened
trains_is x = refl

-- b's shape is in range
module _ {b : List ℤ} (s : ShapeInRange b) where
  -- the least of a lane, whose entry w is open where o says, and has there the figure f w
  lane_least : (side : Side) (k y : ℕ) → k < pairs b → y < size b (lane_train side b k) → (z : List ℤ) → SameLoaded b z → (o : ℕ → Bool) (f : ℕ → ℕ)
      → ((w : ℕ) → w < size b (across_train side b k) → open_place b (lane_place side k y w) ≡ o w)
      → ((w : ℕ) → w < size b (across_train side b k) → o w ≡ true → figure z (lane_place side k y w) ≡ f w) → run_least (lane_run side z k y) z ≡ least_open (size b (across_train side b k)) o f
  lane_least side k y h q z u o f g e =
      ap (λ (r : PlaceRun). run_least r z) (lane_same s z u.shape side k y h q) ∙ by side g e (λ i l. open_same u _)
    where
      by : (t : Side) → ((w : ℕ) → w < size b (across_train t b k) → open_place b (lane_place t k y w) ≡ o w) → ((w : ℕ) → w < size b (across_train t b k) → o w ≡ true → figure z (lane_place t k y w) ≡ f w)
          → ((i : ℕ) → i < (lane_run t b k y).count → open_place z (run_place (lane_run t b k y) i) ≡ open_place b (run_place (lane_run t b k y) i))
          → run_least (lane_run t b k y) z ≡ least_open (size b (across_train t b k)) o f
      by Rows g e v =
          run_least_is (lane_run Rows b k y) z o f
          (λ i l. let p : run_place (lane_run Rows b k y) i ≡ held_entry_place k y i = omega arith in v i l ∙ ap (open_place b) p ∙ g i l)
          (λ i l t. let p : run_place (lane_run Rows b k y) i ≡ held_entry_place k y i = omega arith in ap (figure z) p ∙ e i l t)
      by Columns g e v =
          run_least_is (lane_run Columns b k y) z o f
          (λ i l. let p : run_place (lane_run Columns b k y) i ≡ held_entry_place k i y = omega arith in v i l ∙ ap (open_place b) p ∙ g i l)
          (λ i l t. let p : run_place (lane_run Columns b k y) i ≡ held_entry_place k i y = omega arith in ap (figure z) p ∙ e i l t)

  entry_open_place : (k a d : ℕ) → k < pairs b → a < size b (first b k) → d < size b (second b k) → open_place b (held_entry_place k a d) ≡ (shape_of b).entry_open k a d
  entry_open_place k a d h q r = open_entry b k a d (omega (arith, s.pairs)) (omega (arith, lanes_most s Rows k h)) (omega (arith, lanes_most s Columns k h))

  train_least_lem : (i : ℕ) → i < trains b → (z : List ℤ) → SameLoaded b z → (f : ℕ → ℕ)
      → ((a : ℕ) → a < size b i → (shape_of b).choice_open i a ≡ true → figure z (held_choice_place i a) ≡ f a) → run_least (choices_run z i) z ≡ least_open (size b i) (λ a. (shape_of b).choice_open i a) f
  train_least_lem i h z u f e =
      let d = s.sizes i (omega (arith, s.trains)) in
      let n = s.trains in
      ap (λ (r : PlaceRun). run_least r z) (choices_same s z u.shape i h)
      ∙ run_least_is (choices_run b i) z (λ a. (shape_of b).choice_open i a) f
      (λ a l. let p : run_place (choices_run b i) a ≡ held_choice_place i a = omega arith in
      open_same u _ ∙ ap (open_place b) p ∙ open_choice b i a (omega arith) (omega arith))
      (λ a l t. let p : run_place (choices_run b i) a ≡ held_choice_place i a = omega arith in ap (figure z) p ∙ e a l t)

  row_sent_lem : (k : ℕ) → k < pairs b → RowSent b b k (from_row k) (λ a. pos (row_least b k a))
  row_sent_lem k h a q z u e =
      ap pos (lane_least Rows k a h q z u (λ d. (shape_of b).entry_open k a d) (λ d. held_entry b k a d) (λ d w. entry_open_place k a d h q w)
      (λ d w t. same_figure b z (held_entry_place k a d) (e d w)))

  -- b holds natural numbers at its permitted entries
  module _ (x : Holds (shape_of b) b (held_costs b)) where
    column_sent_lem : (k : ℕ) → k < pairs b → ColumnSent b b k (λ a. pos (row_least b k a)) (from_column k) (λ d. pos (rest_least b k d))
    unfolding figure held_costs
    column_sent_lem k h d w z u e =
        ap pos (lane_least Columns k d h w z u (λ a. (shape_of b).entry_open k a d) (λ a. held_entry b k a d - row_least b k a) (λ a q. entry_open_place k a d h q w)
        (λ a q t. ap nat (e a q ∙ ap (λ (y : ℤ). y -ℤ pos (row_least b k a)) (x.entries k a d h q w t)) ∙ nat_less (held_entry b k a d) (row_least b k a)))

    -- after the turn of a pair
    pub pair_ends_lem : (k : ℕ) → k < pairs b → first b k < second b k → SameEnds b (ends_of (pair_tightened k b)) (pair_ends b k)
    unfolding held_costs
    pair_ends_lem k h l =
        record {
          constant = by_pair constant_place (pair_constant s k h l (from_row k) (from_column k) b (loaded_same b) ∙ x.constant);
          choice = λ i a g c t. by_pair (held_choice_place i a)
              (pair_choice s k h l (from_row k) (from_column k) b (loaded_same b) (λ y. pos (row_least b k y)) (λ y. pos (rest_least b k y)) (row_sent_lem k h) (column_sent_lem k h)
              i a (omega (arith, s.trains)) c
              ∙ ap₂ ◌+ℤ◌ (x.choices i a g c t) (of_map b k i (row_least b k a) (rest_least b k a) 0 pos));
          entry = λ m a d g c w t. at_pair m a d g c w t (ℕ_discrete m k);
        }
      where
        by_pair : (p : ℕ) {z : ℤ} → at (pair_turned k (from_row k) (from_column k) b) p ≡ z → at (pair_tightened k b) p ≡ z
        by_pair p e = ap (λ (y : List ℤ). at y p) (pair_is k b) ∙ e

        own : (a d : ℕ) → a < size b (first b k) → d < size b (second b k) → (shape_of b).entry_open k a d ≡ true → at (pair_tightened k b) (held_entry_place k a d) ≡ entry_left b k a d
        own a d c w t =
            by_pair (held_entry_place k a d)
            (pair_entry s k h l (from_row k) (from_column k) b (loaded_same b) (λ y. pos (row_least b k y)) (λ y. pos (rest_least b k y)) (row_sent_lem k h) (column_sent_lem k h) a d c w
            ∙ ap (λ (z : ℤ). (z -ℤ pos (row_least b k a)) -ℤ pos (rest_least b k d)) (x.entries k a d h c w t))

        at_pair : (m a d : ℕ) → m < pairs b → a < size b (first b m) → d < size b (second b m) → (shape_of b).entry_open m a d ≡ true → Dec (m ≡ k)
            → at (pair_tightened k b) (held_entry_place m a d) ≡ (pair_ends b k).entry m a d
        at_pair m a d g c w t (yes e) = rw (eq-eqb m k e, e) (own a d (rw e at c) (rw e at w) (rw e at t))
        at_pair m a d g c w t (no n) =
            rw (ne_eqb m k n)
            (by_pair (held_entry_place m a d) (pair_entry_other s k h l (from_row k) (from_column k) b (loaded_same b) m a d g c w n ∙ x.entries m a d g c w t))

  -- after the trains' turn on x, where the choices cost f and the entries e
  trains-left : (x : List ℤ) → SameLoaded b x → (f : ℕ → ℕ → ℕ) (e : ℕ → ℕ → ℕ → ℤ)
      → SameEnds b (ends_of x) (record { constant = pos (constant b); choice = λ i a. pos (f i a); entry = e }) → SameEnds b (ends_of (trains_tightened x)) (trains_ends b f e)
  unfolding figure
  trains-left x v f e m =
      record {
        constant = by_trains constant_place
            (trains-constant s from_train x v (λ i. pos (train_least b f i)) sent ∙ ap₂ ◌+ℤ◌ m.constant (sumℤ_pos (trains b) (λ i. pos (train_least b f i)) (train_least b f) (λ i h. refl)));
        choice = λ i a h c t. by_trains (held_choice_place i a)
            (trains_choice s from_train x v (λ j. pos (train_least b f j)) sent i a h c ∙ ap (λ (z : ℤ). z -ℤ pos (train_least b f i)) (m.choice i a h c t));
        entry = λ k a d h c w t. by_trains (held_entry_place k a d) (trains_high s from_train x v (held_entry_place k a d) (omega arith) ∙ m.entry k a d h c w t);
      }
    where
      by_trains : (p : ℕ) {z : ℤ} → at (trains_turned from_train x) p ≡ z → at (trains_tightened x) p ≡ z
      by_trains p g = ap (λ (y : List ℤ). at y p) (trains_is x) ∙ g

      sent : (i : ℕ) → i < trains b → (z : List ℤ) → SameLoaded b z → ((a : ℕ) → a < size b i → at z (held_choice_place i a) ≡ at x (held_choice_place i a))
          → from_train i z ≡ pos (train_least b f i)
      sent i h z u g = ap pos (train_least_lem i h z u (f i) (λ a c t. ap nat (g a c ∙ m.choice i a h c t)))

-- ---- a study

module _ {b : List ℤ} (o : Study b) where
  s : ShapeInRange b
  s = study_shape_in_range o

  -- what the first m pairs leave
  after_loaded : (m : ℕ) → m ≤ pairs b → SameLoaded b (iter m pair_tightened b)
  after_loaded = pairs_shape s (first-below-second o) from_row from_column pair_tightened (λ k z h u. pair_is k z) b (loaded_same b)

  after_held : (m : ℕ) → m ≤ pairs b → Holds (shape_of (iter m pair_tightened b)) (iter m pair_tightened b) (held_costs (iter m pair_tightened b))
  after_held m h = non_negative_held (shape_in_range_kept (after_loaded m h).shape s) (loaded_same (iter m pair_tightened b)) (pairs_natural o m h)

  -- 'For each pair in order': the turn of pair k, on what the pairs before it left
  pub tighten_pair_lem : (k : ℕ) → k < pairs b → SameEnds (iter k pair_tightened b) (ends_of (pair_tightened k (iter k pair_tightened b))) (pair_ends (iter k pair_tightened b) k)
  tighten_pair_lem k h =
      let u = (after_loaded k (omega arith)).shape in
      let g : k < max_pairs = omega (arith, s.pairs) in
      pair_ends_lem (shape_in_range_kept u s) (after_held k (omega arith)) k (omega (arith, same_pairs u)) (omega (arith, first-below-second o k h, same_first u k g, same_second u k g))

  -- 'After all pairs, by train': the trains' turn, on what the pairs left
  pub tighten_trains_lem : SameEnds (pairs_tightened b) (ends_of (tightened b)) (trains_ends (pairs_tightened b) (held_choice (pairs_tightened b)) (λ k a d. pos (held_entry (pairs_tightened b) k a d)))
  unfolding tightened held_costs
  tighten_trains_lem =
      let c = pairs_tightened b in
      let x = after_held (pairs b) (omega arith) in
      trains-left (shape_in_range_kept (after_loaded (pairs b) (omega arith)).shape s) c (loaded_same c) (held_choice c) (λ k a d. pos (held_entry c k a d))
      (record { constant = x.constant; choice = λ i a h q t. x.choices i a h q t; entry = λ k a d h q r t. x.entries k a d h q r t })

  -- the end, by the study as it was, before it is judged
  pub tightened_ends : SameEnds b (ends_of (tightened b)) (tighten_ends b)
  unfolding tightened held_costs
  tightened_ends =
      trains-left s (pairs_tightened b) (after_loaded (pairs b) (omega arith)) (λ i a. held_choice b i a + sum (pairs b) (gain b i a)) (entry_left b)
      (record {
        constant = pairs-constant s (first-below-second o) from_row from_column pair_tightened (λ k z h u. pair_is k z) b (loaded_same b) ∙ x.constant;
        choice = λ i a h q t.
            pairs_choice s (first-below-second o) from_row from_column pair_tightened (λ k z g u. pair_is k z) b (loaded_same b) row rest (row_sent_lem s) (column_sent_lem s x) i a h q
            ∙ ap₂ ◌+ℤ◌ (x.choices i a h q t)
            (sumℤ_pos (pairs b) (λ k. of_pair b k i (row k a) (rest k a) (pos 0)) (gain b i a) (λ k g. of_map b k i (row_least b k a) (rest_least b k a) 0 pos));
        entry = λ k a d h q r t.
            pairs_entry s (first-below-second o) from_row from_column pair_tightened (λ l z g u. pair_is l z) b (loaded_same b) row rest (row_sent_lem s) (column_sent_lem s x) k a d h q r
            ∙ ap (λ (z : ℤ). (z -ℤ row k a) -ℤ rest k d) (x.entries k a d h q r t);
      })
    where
      x : Holds (shape_of b) b (held_costs b)
      x = study_held o

      row : ℕ → ℕ → ℤ
      row k a = pos (row_least b k a)

      rest : ℕ → ℕ → ℤ
      rest k d = pos (rest_least b k d)

  -- 12, 'c0 or an entry would end below 0 or above L'. Of tighten no permitted end is below 0: 'above L' alone is the case, and exactly then
  pub tighten_declined : (tighten_outcome b ≡ Declined PartsOutside) ↔ SomeEnd Above b (tighten_ends b)
  tighten_declined = judged_above o (tighten_rewrites o) (tighten_ends b) tightened_ends (tighten_natural o)

  pub tighten_accepted : (tighten_outcome b ≡ Fine) ↔ (SomeEnd Above b (tighten_ends b) → ⊥)
  tighten_accepted = done_unless b (tightened b) tighten_declined

  -- the accepted block
  pub tighten_ends_lem : tighten_outcome b ≡ Fine → SameEnds b (ends_of (tighten_block b)) (tighten_ends b)
  tighten_ends_lem = judged_ends o (tighten_rewrites o) (tighten_ends b) tightened_ends

  -- a forbidden entry stays so, accepted or not
  pub tighten_forbidden : Forbidden b (ends_of (tighten_block b))
  tighten_forbidden = judged_forbidden o (tighten_rewrites o)
