-- What no move meets stays; and every number of a table without numbers below 0 is at most the total of a plan that pays it.
use mathlib.Core.Path.{◌≡◌, refl, sym, ap, ◌∙◌}
use mathlib.Core.Bool.{Bool, true, false, ◌&&◌}
use mathlib.Core.List.{List}
use mathlib.Core.Logic.{◌⊎◌, inl, inr, ⊎_elim, dite, ◌≢◌}
use Prim.Native.Nat.{ℕ, ◌+◌, ◌*◌, ◌-◌, ◌/◌, ◌%◌, ◌<◌, ◌≤◌}
use native.Mathlib.Decide.{ℕ_discrete, dec_lt}
use native.Mathlib.Omega.{arith}
use lib.Dec.{ltb}
use lib.IntN.{ℤ, pos, negsuc}
use lib.ListN.{get_or-eq_default}
use borrow.Author.Tests.{lt-ltb, ltb-true}
use Rattle.theory.specs.Sum.{update}
use Rattle.theory.proofs.Range.{both_true, not_both}
use Rattle.theory.proofs.Sum.{update_same, update_other}
use Rattle.tables.specs.Block.{block_length, max_trains, max_choices, max_pairs, max_cost, max_parts, entries_of_pair, constant_place, loaded_choices_from, held_choices_from, loaded_entries_from, held_entries_from, order_from, order_place, loaded_choice_place, loaded_entry_place, held_choice_place, held_entry_place, at, figure, trains, pairs, constant, size, first, second, held_choice, held_entry}
use Rattle.tables.specs.Plans.{IsPlan, Open, total, shape_of, held_costs, held_total}
use Rattle.tables.specs.declared.place_limits.Limits.{Limits}
use Rattle.tables.specs.WellFormed.{from_to, cost_to, within, is_open, used_if, choice_used, entry_used, head_limits, limits_at, Study}
use Rattle.tables.proofs.Limits.{natural_open, within_pos, choice_used_lem, entry_used_lem, limits_head, limits_loaded_choices, limits-held_choices, limits_loaded_entries, limits-held_entries}
use Rattle.tables.proofs.Study.{study_from, study_place, shape_natural, order_natural, trains_range, size_range, first-below-second, first-below-trains, second-below-trains}
use Rattle.tables.proofs.Plans.{open_plan, study_shaped, same_shape_total, constant_at_most_total, choice_at_most_total, pair_at_most_total}
use Rattle.rewriting.specs.declared.sides.PlaceRun.{PlaceRun}
use Rattle.rewriting.specs.declared.sides.Side.TheVariants.{Rows, Columns}
use Rattle.rewriting.specs.Moves.{move_run, NonEmpty}
use Rattle.rewriting.specs.Leasts.{mate_place, NonNegative}
use Rattle.rewriting.proofs.Runs.{move_other}
use Rattle.rewriting.proofs.Shape.{Between, Loaded, SameLoaded, loaded_order, Project, lane, unary, Asked, Moved, none, move}
use Rattle.rewriting.proofs.Opens.{by_table, mate_loaded, open_all, open_same, mates_open}

-- ---- places that no move meets

pub record Unmet (b : List ℤ) (p : ℕ) : Type 0 where
  pub constant : p ≢ constant_place
  pub choices : (i a : ℕ) → i < trains b → a < size b i → p ≢ held_choice_place i a
  pub entries : (k a c : ℕ) → k < pairs b → a < size b (first b k) → c < size b (second b k) → p ≢ held_entry_place k a c

module _ {R : Asked} {b : List ℤ} (o : NonEmpty b) {p : ℕ} (u : Unmet b p) where
  pub moved_unmet : {n : ℕ} {c : List ℤ} → Moved R b n c → at c p ≡ at b p
  moved_unmet none = refl
  moved_unmet (move {c = c} α l j r w) = by j ∙ moved_unmet w
    where
      by : {r : PlaceRun} → Project b r → at (move_run r α c) p ≡ at c p
      by (lane Rows k a h q) = move_other _ α c p (u.choices (first b k) a (o.firsts k h) q) (λ i l e. u.entries k a i h q l (omega arith))
      by (lane Columns k a h q) = move_other _ α c p (u.choices (second b k) a (o.seconds k h) q) (λ i l e. u.entries k i a h l q (omega arith))
      by (unary i h) = move_other _ α c p u.constant (λ a l e. u.choices i a h l (omega arith))

-- ---- the offsets of used costs

offset_choice : (b : List ℤ) (o : ℕ) → choice_used b o ≡ true → (o / 8 < trains b) × (o % 8 < size b (o / 8))
unfolding choice_used
offset_choice b o t =
    let u = both_true (ltb (o / 8) (trains b)) (ltb (o % 8) (size b (o / 8))) t in
    (ltb-true _ _ u.0, ltb-true _ _ u.1)

offset_entry : (b : List ℤ) (o : ℕ) → entry_used b o ≡ true
    → (o / 64 < pairs b) × (o % 64 / 8 < size b (first b (o / 64))) × (o % 8 < size b (second b (o / 64)))
unfolding entry_used
offset_entry b o t =
    let u = both_true (ltb (o / 64) (pairs b)) (ltb (o % 64 / 8) (size b (first b (o / 64))) && ltb (o % 8) (size b (second b (o / 64)))) t in
    let v = both_true (ltb (o % 64 / 8) (size b (first b (o / 64)))) (ltb (o % 8) (size b (second b (o / 64)))) u.1 in
    (ltb-true _ _ u.0, ltb-true _ _ v.0, ltb-true _ _ v.1)

-- ---- where nothing is forbidden, no number is below 0

module _ {b : List ℤ} (s : Study b) (o : Open (shape_of b)) where
  -- an unused place of H
  unused : (t : Bool) (high p : ℕ) → p < block_length → limits_at b p ≡ used_if t (cost_to high) → t ≡ false → is_open (at b p) ≡ true
  unused t high p h e f = natural_open _ _ ((study_place s p h).natural (ap (λ (l : Limits). l.closable) (e ∙ ap (λ (u : Bool). used_if u (cost_to high)) f)))

  choice_plain : (d : ℕ) → d < max_trains * max_choices → is_open (at b (loaded_choices_from + d)) ≡ true
  choice_plain d h = by (choice_used b d) refl
    where
      by : (t : Bool) → choice_used b d ≡ t → is_open (at b (loaded_choices_from + d)) ≡ true
      by true e =
          let u = offset_choice b d e in
          let z : loaded_choice_place (d / 8) (d % 8) ≡ loaded_choices_from + d = omega arith in
          ap (λ (p : ℕ). is_open (at b p)) (sym z) ∙ o.choices (d / 8) (d % 8) u.0 u.1
      by false e = unused (choice_used b d) max_cost (loaded_choices_from + d) (omega arith) (limits_loaded_choices b d h) e

  entry_plain : (d : ℕ) → d < max_pairs * entries_of_pair → is_open (at b (loaded_entries_from + d)) ≡ true
  entry_plain d h = by (entry_used b d) refl
    where
      by : (t : Bool) → entry_used b d ≡ t → is_open (at b (loaded_entries_from + d)) ≡ true
      by true e =
          let u = offset_entry b d e in
          let z : loaded_entry_place (d / 64) (d % 64 / 8) (d % 8) ≡ loaded_entries_from + d = omega arith in
          ap (λ (p : ℕ). is_open (at b p)) (sym z) ∙ o.entries (d / 64) (d % 64 / 8) (d % 8) u.0 u.1 u.2
      by false e = unused (entry_used b d) max_cost (loaded_entries_from + d) (omega arith) (limits_loaded_entries b d h) e

  -- a place of the order, or past the end
  order_plain : (p : ℕ) → order_from ≤ p → is_open (at b p) ≡ true
  order_plain p l =
      dite (dec_lt p block_length)
      (λ (h : p < block_length). let z : order_place (p - order_from) ≡ p = omega arith in rw z at (natural_open _ _ (order_natural s (p - order_from) (omega arith))))
      (λ n. natural_open _ _ (get_or-eq_default b (pos 0) (omega (arith, s.whole))))

  -- of H and of the order
  loaded_plain : (p : ℕ) → Loaded p → is_open (at b p) ≡ true
  loaded_plain p l =
      ⊎_elim
      (λ (w : Between loaded_choices_from held_choices_from p).
      let z : loaded_choices_from + (p - loaded_choices_from) ≡ p = omega (arith, w.low) in rw z at (choice_plain (p - loaded_choices_from) (omega (arith, w.high))))
      (λ v. ⊎_elim
      (λ (w : Between loaded_entries_from held_entries_from p).
      let z : loaded_entries_from + (p - loaded_entries_from) ≡ p = omega (arith, w.low) in rw z at (entry_plain (p - loaded_entries_from) (omega (arith, w.high))))
      (λ (w : order_from ≤ p). order_plain p w) v)
      l.table

  -- and so of T, by its mates
  pub study_plain : (p : ℕ) → is_open (at b p) ≡ true
  study_plain p =
      dite (dec_lt p loaded_choices_from) (λ (h : p < loaded_choices_from). natural_open _ _ (shape_natural s p h))
      (λ n. dite (dec_lt p block_length)
      (λ (h : p < block_length). let l : loaded_choices_from ≤ p = omega arith in sym (mates_open s p l) ∙ loaded_plain (mate_place p) (mate_loaded p l))
      (λ m. natural_open _ _ (get_or-eq_default b (pos 0) (omega (arith, s.whole)))))

natural_zero : (c : List ℤ) (p : ℕ) → at c p ≡ pos 0 → at c p ≡ pos (figure c p)
unfolding figure
natural_zero c p e = rw e

-- so an end without an open number below 0 has none at all
pub plain_natural : {b c : List ℤ} → Study b → Open (shape_of b) → SameLoaded b c → NonNegative c → (p : ℕ) → at c p ≡ pos (figure c p)
plain_natural {b} {c} s o l e p =
    dite (dec_lt p block_length) (λ (h : p < block_length). e.natural p h (open_same l p ∙ open_all b (study_plain s o) p))
    (λ n. natural_zero c p (get_or-eq_default c (pos 0) (omega (arith, l.shape.whole, s.whole))))

-- the constant's own limits
head_place : (z : ℤ) → within (from_to 0 max_parts) z ≡ true → within (head_limits constant_place) z ≡ true
unfolding head_limits
head_place z e = e

-- a number from 0 to L is a cost, and open
within_cost : (high : ℕ) (z : ℤ) → within (from_to 0 high) z ≡ true → (within (cost_to high) z ≡ true) × (is_open z ≡ true)
unfolding within is_open
within_cost high (pos n) e = (e, refl)
within_cost high (negsuc n) e = absurd (not_both e refl)

-- ---- a changed block whose open numbers are from 0 to L

-- c has the shape of b, its H and its order, differs from it only where a plan may pay, stands as b does where that is below 0, and has open choices, open entries and a constant from 0 to L
module _ {b : List ℤ} (s : Study b) (c : List ℤ) (e : SameLoaded b c) (unmet : (p : ℕ) → Unmet b p → at c p ≡ at b p) (closed : (p : ℕ) → is_open (at b p) ≡ false → at c p ≡ at b p)
    (constant-in : within (from_to 0 max_parts) (at c constant_place) ≡ true)
    (choice-in : (i a : ℕ) → i < trains b → a < size b i → is_open (at b (held_choice_place i a)) ≡ true → within (from_to 0 max_parts) (at c (held_choice_place i a)) ≡ true)
    (entry_in : (k a d : ℕ) → k < pairs b → a < size b (first b k) → d < size b (second b k) → is_open (at b (held_entry_place k a d)) ≡ true
    → within (from_to 0 max_parts) (at c (held_entry_place k a d)) ≡ true) where
  -- what place p of c holds is within the limits of b, and open where b is
  record Fits (p : ℕ) : Type 0 where
    limited : within (limits_at b p) (at c p) ≡ true
    still : is_open (at c p) ≡ is_open (at b p)

  fits_same : (p : ℕ) → p < block_length → at c p ≡ at b p → Fits p
  fits_same p h q = record { limited = rw q (s.places p h); still = ap is_open q }

  by_use : (t : Bool) (p : ℕ) → p < block_length → limits_at b p ≡ used_if t (cost_to max_parts) → (t ≡ true → is_open (at b p) ≡ true → within (from_to 0 max_parts) (at c p) ≡ true)
      → (t ≡ false → Unmet b p) → Fits p
  by_use true p h z f g = by (is_open (at b p)) refl
    where
      by : (o : Bool) → is_open (at b p) ≡ o → Fits p
      by true q = let w = within_cost max_parts (at c p) (f refl q) in record { limited = rw z w.0; still = w.1 ∙ sym q }
      by false q = fits_same p h (closed p q)
  by_use false p h z f g = fits_same p h (unmet p (g refl))

  held_choice_lem : (o : ℕ) → o < max_trains * max_choices → Fits (held_choices_from + o)
  held_choice_lem o h = by_use (choice_used b o) (held_choices_from + o) (omega arith) (limits-held_choices b o h) taken free
    where
      taken : choice_used b o ≡ true → is_open (at b (held_choices_from + o)) ≡ true → within (from_to 0 max_parts) (at c (held_choices_from + o)) ≡ true
      taken t w =
          let u = offset_choice b o t in
          let z : held_choice_place (o / 8) (o % 8) ≡ held_choices_from + o = omega arith in
          rw z at (choice-in (o / 8) (o % 8) u.0 u.1 (ap (λ (p : ℕ). is_open (at b p)) z ∙ w))

      free : choice_used b o ≡ false → Unmet b (held_choices_from + o)
      free t =
          record {
            constant = λ z. omega arith;
            choices = λ i a l q z.
                let g : max_choices * i + a ≡ o = omega arith in
                not_both (ap (choice_used b) (sym g) ∙ choice_used_lem b i a (omega (arith, size_range s i l)) ∙ rw (lt-ltb i (trains b) l, lt-ltb a (size b i) q)) t;
            entries = λ k a d l q r z. omega arith;
          }

  held_entry_lem : (o : ℕ) → o < max_pairs * entries_of_pair → Fits (held_entries_from + o)
  held_entry_lem o h = by_use (entry_used b o) (held_entries_from + o) (omega arith) (limits-held_entries b o h) taken free
    where
      taken : entry_used b o ≡ true → is_open (at b (held_entries_from + o)) ≡ true → within (from_to 0 max_parts) (at c (held_entries_from + o)) ≡ true
      taken t w =
          let u = offset_entry b o t in
          let z : held_entry_place (o / 64) (o % 64 / 8) (o % 8) ≡ held_entries_from + o = omega arith in
          rw z at (entry_in (o / 64) (o % 64 / 8) (o % 8) u.0 u.1 u.2 (ap (λ (p : ℕ). is_open (at b p)) z ∙ w))

      free : entry_used b o ≡ false → Unmet b (held_entries_from + o)
      free t =
          record {
            constant = λ z. omega arith;
            choices = λ i a l q z. omega (arith, size_range s i l, trains_range s);
            entries = λ k a d l q r z.
                let g : entries_of_pair * k + (max_choices * a + d) ≡ o = omega arith in
                let m = size_range s (first b k) (first-below-trains s k l) in
                let n = size_range s (second b k) (second-below-trains s k l) in
                not_both
                (ap (entry_used b) (sym g) ∙ entry_used_lem b k a d (omega arith) (omega arith)
                ∙ rw (lt-ltb k (pairs b) l, lt-ltb a (size b (first b k)) q, lt-ltb d (size b (second b k)) r)) t;
          }

  cost_fits : (p : ℕ) → loaded_choices_from ≤ p → p < block_length → Fits p
  cost_fits p l h =
      by_table Fits p l
      (λ q. fits_same p h (e.loaded p (record { table = inl (record { low = l; high = q }) })))
      (λ q r. let z : held_choices_from + (p - held_choices_from) ≡ p = omega arith in rw z at (held_choice_lem (p - held_choices_from) (omega arith)))
      (λ q r. fits_same p h (e.loaded p (record { table = inr (inl (record { low = q; high = r })) })))
      (λ q r. let z : held_entries_from + (p - held_entries_from) ≡ p = omega arith in rw z at (held_entry_lem (p - held_entries_from) (omega arith)))
      (λ q. fits_same p h (e.loaded p (record { table = inr (inr q) })))

  pub inside_study : Study c
  inside_study = study_from e.shape s (loaded_order e) limited still
    where
      limited : (p : ℕ) → p < order_from → (p ≡ constant_place) ⊎ (loaded_choices_from ≤ p) → within (limits_at b p) (at c p) ≡ true
      limited p h (inl z) = rw (z, limits_head b constant_place (omega arith)) (head_place (at c constant_place) constant-in)
      limited p h (inr l) = (cost_fits p l (omega arith)).limited

      still : (p : ℕ) → loaded_choices_from ≤ p → is_open (at c p) ≡ is_open (at b p)
      still p l =
          dite (dec_lt p block_length) (λ (h : p < block_length). (cost_fits p l h).still)
          (λ n. ap is_open (get_or-eq_default c (pos 0) (omega (arith, e.shape.whole, s.whole)) ∙ sym (get_or-eq_default b (pos 0) (omega (arith, s.whole)))))

-- ---- plans through a cost

module _ {b : List ℤ} (s : Study b) (o : Open (shape_of b)) where
  -- choice 0 everywhere, and a plan with train i at another choice
  plain_plan : IsPlan (shape_of b) (λ i. 0)
  plain_plan = open_plan (study_shaped s) o (λ i. 0) (λ i h. (size_range s i h).0)

  update_plan : (x : ℕ → ℕ) (i a : ℕ) → IsPlan (shape_of b) x → a < size b i → IsPlan (shape_of b) (update x i a)
  update_plan x i a p q =
      open_plan (study_shaped s) o (update x i a)
      (λ j h. dite (ℕ_discrete j i) (λ (e : j ≡ i). rw (update_same x i a j e, e) q) (λ n. rw (update_other x i a j n) (p.below j h)))

  module _ (c : List ℤ) (e : SameLoaded b c) (natural : (p : ℕ) → at c p ≡ pos (figure c p)) (unmet : (p : ℕ) → Unmet b p → at c p ≡ at b p)
      (low : (x : ℕ → ℕ) → IsPlan (shape_of b) x → held_total c x ≤ max_parts) where
    low_total : (x : ℕ → ℕ) → IsPlan (shape_of b) x → total (shape_of b) (held_costs c) x ≤ max_parts
    low_total x p = rw (← same_shape_total e.shape s (held_costs c) x) (low x p)

    constant_most : constant c ≤ max_parts
    unfolding held_costs
    constant_most = omega (arith, low_total (λ i. 0) plain_plan, constant_at_most_total (shape_of b) (held_costs c) (λ i. 0))

    choice_most : (i a : ℕ) → i < trains b → a < size b i → held_choice c i a ≤ max_parts
    unfolding held_costs
    choice_most i a h q =
        let x = update (λ j. 0) i a in
        omega (
          arith,
          low_total x (update_plan (λ j. 0) i a plain_plan q),
          choice_at_most_total (shape_of b) (held_costs c) x i h,
          ap (held_choice c i) (update_same (λ j. 0) i a i refl),
        )

    entry_most : (k a d : ℕ) → k < pairs b → a < size b (first b k) → d < size b (second b k) → held_entry c k a d ≤ max_parts
    unfolding held_costs
    entry_most k a d h q r =
        let y = update (λ j. 0) (first b k) a in
        let x = update y (second b k) d in
        let f = first-below-second s k h in
        let u : x (first b k) ≡ a = update_other y (second b k) d (first b k) (λ z. omega arith) ∙ update_same (λ j. 0) (first b k) a (first b k) refl in
        let v : x (second b k) ≡ d = update_same y (second b k) d (second b k) refl in
        omega (
          arith,
          low_total x (update_plan y (second b k) d (update_plan (λ j. 0) (first b k) a plain_plan q) r),
          pair_at_most_total (shape_of b) (held_costs c) x k h,
          ap (λ (n : ℕ). held_entry c k n (x (second b k))) u,
          ap (held_entry c k a) v,
        )

    -- a block of the same shape whose numbers are natural, changed only where a plan pays, holds a study where no plan's total is above L
    pub reach_study : Study c
    reach_study =
        inside_study s c e unmet (λ p q. absurd (not_both (study_plain s o p) q)) (low_place constant_place constant_most)
        (λ i a h q w. low_place (held_choice_place i a) (choice_most i a h q)) (λ k a d h q r w. low_place (held_entry_place k a d) (entry_most k a d h q r))
      where
        low_place : (p : ℕ) → figure c p ≤ max_parts → within (from_to 0 max_parts) (at c p) ≡ true
        low_place p h = rw (natural p) (within_pos (from_to 0 max_parts) (figure c p) (omega arith) h)
