-- A rewriting is declined exactly where the constant or a permitted number ends below 0 or above L, since its shape, H, its unused places and what is forbidden stay.
use mathlib.Core.Path.{◌≡◌, refl, sym, ap, ◌∙◌}
use mathlib.Core.Bool.{Bool, true, false}
use mathlib.Core.List.{List}
use mathlib.Core.Logic.{◌↔◌, ◌⊎◌, inl, inr, ⊎_elim, dite}
use Prim.Native.Nat.{ℕ, zero, suc, ◌<◌, ◌≤◌}
use native.Mathlib.Decide.{dec_lt}
use native.Mathlib.Omega.{arith}
use lib.IntN.{ℤ, pos, negsuc}
use borrow.Author.Tests.{lt-ltb, ltb-true}
use Rattle.theory.proofs.Range.{below_suc, not_both}
use Rattle.refusals.specs.declared.Refusal.TheVariants.{PartsOutside}
use Rattle.refusals.specs.Verdicts.{Fine, Declined, settled, unless}
use Rattle.tables.specs.Block.{max_parts, constant_place, held_choice_place, held_entry_place, at, figure, trains, pairs, size, first, second}
use Rattle.tables.specs.Plans.{shape_of, held_costs}
use Rattle.tables.specs.WellFormed.{from_to, within, is_open, holds_study, Study}
use Rattle.tables.proofs.Limits.{within_pos, natural_open}
use Rattle.tables.proofs.Study.{study_holds, choice_open_lem, entry_open_lem}
use Rattle.tables.proofs.Plans.{study_shaped}
use Rattle.rewriting.specs.Judged.{kept, judged, judged_block}
use Rattle.rewriting.specs.Leasts.{NonNegative}
use Rattle.rewriting.specs.Ends.{Ends, ends_of, SameEnds, Above, Outside, SomeEnd, constant, choice, entry}
use Rattle.rewriting.proofs.Shape.{study_figure, study_shape_in_range, Asked, Moved, moved_loaded}
use Rattle.rewriting.proofs.Opens.{study_constant}
use Rattle.rewriting.proofs.Holds.{Holds, holds_alike, study_held, non_negative_held}
use Rattle.rewriting.proofs.Reach.{inside_study}
use Rattle.rewriting.proofs.Rewritten.{loaded_alike, rewrites_loaded, rewrites_unmet, rewrites_closed, rewrites_open, rewrites_holds}

apart : Fine ≡ Declined PartsOutside → ⊥
apart q = let z : ◌≡◌ {A = ℕ} 0 1 = cc in omega arith

-- what is not declined is done
pub done_unless : (b c : List ℤ) {A : Type 0} → (judged b c ≡ Declined PartsOutside) ↔ A → (judged b c ≡ Fine) ↔ (A → ⊥)
done_unless b c {A} e = ((λ d w. apart (sym d ∙ e.1 w)), (λ n. go n (holds_study (kept b c)) refl))
  where
    go : (A → ⊥) → (t : Bool) → holds_study (kept b c) ≡ t → unless t PartsOutside ≡ Fine
    go n true q = refl
    go n false q = absurd (n (e.0 (ap (λ (x : Bool). unless x PartsOutside) q)))

-- ---- a number that is outside, or not

outside_or_in : (z : ℤ) → Outside z ⊎ (within (from_to 0 max_parts) z ≡ true)
outside_or_in (pos n) =
    dite (dec_lt max_parts n) (λ (h : max_parts < n). inl (inr (lt-ltb max_parts n h))) (λ h. inr (within_pos (from_to 0 max_parts) n (omega arith) (omega arith)))
outside_or_in (negsuc n) = inl (inl refl)

-- a natural number is not below 0
natural_above : {z : ℤ} (n : ℕ) → z ≡ pos n → Outside z → Above z
natural_above n q (inl e) = let h : n < 0 = ltb-true n 0 (rw q at e) in absurd (omega arith)
natural_above n q (inr e) = e

not_outside : {z : ℤ} (n : ℕ) → z ≡ pos n → n ≤ max_parts → Outside z → ⊥
not_outside n e h w = let l : max_parts < n = ltb-true max_parts n (rw e at (natural_above n e w)) in omega arith

-- something is found at one of n numbers, or Q holds of each
find : {W : Type 0} (Q : ℕ → Type 0) (n : ℕ) → ((i : ℕ) → i < n → W ⊎ Q i) → W ⊎ ((i : ℕ) → i < n → Q i)
find Q zero f = inr (λ i h. absurd (omega arith))
find {W} Q (suc n) f =
    ⊎_elim (λ (w : W). inl w)
    (λ (q : Q n). ⊎_elim (λ (w : W). inl w)
    (λ (g : (i : ℕ) → i < n → Q i). inr (λ i h. ⊎_elim (λ (e : i ≡ n). rw e q) (λ (l : i < n). g i l) (below_suc i n h)))
    (find Q n (λ i h. f i (omega arith))))
    (f n (omega arith))

-- something is found at an entry, or Q holds of it where it is permitted
if_open : {W Q : Type 0} (t : Bool) → (t ≡ true → W ⊎ Q) → W ⊎ (t ≡ true → Q)
if_open {W} {Q} true f = ⊎_elim (λ (w : W). inl w) (λ (q : Q). inr (λ e. q)) (f refl)
if_open false f = inr (λ e. absurd (not_both e refl))

-- ---- 12

-- the moves of an operation on b end at c, where the numbers f stand
module _ {R : Asked} {b : List ℤ} (s : Study b) {n : ℕ} {c : List ℤ} (v : Moved R b n c) (f : Ends) (same : SameEnds b (ends_of c) f) where
  -- a permitted number of T is open, and ends where the moves left it
  open_choices : (i a : ℕ) → i < trains b → a < size b i → (shape_of b).choice_open i a ≡ true → is_open (at b (held_choice_place i a)) ≡ true
  open_choices i a h q o = sym (choice_open_lem s i a h q) ∙ o

  open_entries : (k a d : ℕ) → k < pairs b → a < size b (first b k) → d < size b (second b k) → (shape_of b).entry_open k a d ≡ true → is_open (at b (held_entry_place k a d)) ≡ true
  open_entries k a d h q r o = sym (entry_open_lem s k h a d q r) ∙ o

  -- so the end has the numbers f, what is forbidden put back
  ends : SameEnds b (ends_of (kept b c)) f
  ends =
      record {
        constant = rewrites_open s v constant_place (natural_open _ _ (study_constant s)) ∙ same.constant;
        choice = λ i a h q o. rewrites_open s v (held_choice_place i a) (open_choices i a h q o) ∙ same.choice i a h q o;
        entry = λ k a d h q r o. rewrites_open s v (held_entry_place k a d) (open_entries k a d h q r o) ∙ same.entry k a d h q r o;
      }

  abbrev Inside : ℕ → Type 0
  Inside p = within (from_to 0 max_parts) (at (kept b c) p) ≡ true

  -- a number is outside, or the place is within its limits
  at_place : (p : ℕ) {z : ℤ} → at (kept b c) p ≡ z → (Outside z → SomeEnd Outside b f) → SomeEnd Outside b f ⊎ Inside p
  at_place p g w = ⊎_elim (λ (o : Outside (at (kept b c) p)). inl (w (rw g at o))) (λ (h : Inside p). inr h) (outside_or_in (at (kept b c) p))

  abbrev ChoiceInside : ℕ → ℕ → Type 0
  ChoiceInside i a = (shape_of b).choice_open i a ≡ true → Inside (held_choice_place i a)

  abbrev EntryInside : ℕ → ℕ → ℕ → Type 0
  EntryInside k a d = (shape_of b).entry_open k a d ≡ true → Inside (held_entry_place k a d)

  some_choice : SomeEnd Outside b f ⊎ ((i : ℕ) → i < trains b → (a : ℕ) → a < size b i → ChoiceInside i a)
  some_choice =
      find _ (trains b) (λ i h. find _ (size b i) (λ a q. if_open ((shape_of b).choice_open i a) (λ o. at_place (held_choice_place i a) (ends.choice i a h q o) (choice i a h q o))))

  some_entry : SomeEnd Outside b f ⊎ ((k : ℕ) → k < pairs b → (a : ℕ) → a < size b (first b k) → (d : ℕ) → d < size b (second b k) → EntryInside k a d)
  some_entry =
      find _ (pairs b) (λ k h. find _ (size b (first b k)) (λ a q. find _ (size b (second b k)) (λ d r.
      if_open ((shape_of b).entry_open k a d) (λ o. at_place (held_entry_place k a d) (ends.entry k a d h q r o) (entry k a d h q r o)))))

  -- a number is outside, or the end holds a study
  some_or_study : SomeEnd Outside b f ⊎ Study (kept b c)
  some_or_study =
      ⊎_elim (λ (w : SomeEnd Outside b f). inl w)
      (λ (x : Inside constant_place). ⊎_elim (λ (w : SomeEnd Outside b f). inl w)
      (λ (y : (i : ℕ) → i < trains b → (a : ℕ) → a < size b i → ChoiceInside i a). ⊎_elim (λ (w : SomeEnd Outside b f). inl w)
      (λ (z : (k : ℕ) → k < pairs b → (a : ℕ) → a < size b (first b k) → (d : ℕ) → d < size b (second b k) → EntryInside k a d).
      inr (inside_study s (kept b c) (rewrites_loaded s v) (rewrites_unmet s v) (rewrites_closed s v) x
      (λ i a h q o. y i h a q (choice_open_lem s i a h q ∙ o)) (λ k a d h q r o. z k h a q d r (entry_open_lem s k h a d q r ∙ o))))
      some_entry)
      some_choice)
      (at_place constant_place ends.constant constant)

  -- not both: no permitted number of a study is outside
  study_inside : Study (kept b c) → SomeEnd Outside b f → ⊥
  unfolding held_costs
  study_inside t w = by w
    where
      x : Holds (shape_of b) (kept b c) (held_costs (kept b c))
      x = holds_alike (loaded_alike (study_shape_in_range s) (rewrites_loaded s v)) (study_shaped s) (study_held t)

      place : (p : ℕ) {z : ℤ} → at (kept b c) p ≡ pos (figure (kept b c) p) → at (kept b c) p ≡ z → Outside z → ⊥
      place p q g = not_outside (figure (kept b c) p) (sym g ∙ q) (study_figure t p)

      by : SomeEnd Outside b f → ⊥
      by (constant o) = place constant_place x.constant ends.constant o
      by (choice i a h q w o) = place (held_choice_place i a) (x.choices i a h q w) (ends.choice i a h q w) o
      by (entry k a d h q r w o) = place (held_entry_place k a d) (x.entries k a d h q r w) (ends.entry k a d h q r w) o

  -- so the two outcomes are told apart by these numbers
  judged_by : (P : Bool → Type 0) → (SomeEnd Outside b f → P false) → (Study (kept b c) → P true) → P (holds_study (kept b c))
  judged_by P x y = ⊎_elim (λ (w : SomeEnd Outside b f). go w (holds_study (kept b c)) refl) (λ (t : Study (kept b c)). rw (study_holds t) (y t)) some_or_study
    where
      go : SomeEnd Outside b f → (u : Bool) → holds_study (kept b c) ≡ u → P u
      go w true q = absurd (study_inside (rewrites_holds s v q) w)
      go w false q = x w

  -- 12 exactly where one of the numbers is outside
  pub judged-outside : (judged b c ≡ Declined PartsOutside) ↔ SomeEnd Outside b f
  judged-outside =
      judged_by (λ u. (unless u PartsOutside ≡ Declined PartsOutside) ↔ SomeEnd Outside b f) (λ w. ((λ q. w), (λ v. refl)))
      (λ t. ((λ q. absurd (apart q)), (λ w. absurd (study_inside t w))))

  -- where none is, they stand in the block
  pub judged_ends : judged b c ≡ Fine → SameEnds b (ends_of (judged_block b c)) f
  judged_ends =
      judged_by (λ u. unless u PartsOutside ≡ Fine → SameEnds b (ends_of (settled (unless u PartsOutside) b (kept b c))) f) (λ w. λ q. absurd (apart (sym q))) (λ t. λ q. ends)

  -- of an end without an open number below 0, 'above L' alone is the case
  pub judged_above : NonNegative c → (judged b c ≡ Declined PartsOutside) ↔ SomeEnd Above b f
  judged_above o = ((λ q. up (judged-outside.0 q)), (λ w. judged-outside.1 (down w)))
    where
      x : Holds (shape_of b) c (held_costs c)
      x = non_negative_held (study_shape_in_range s) (moved_loaded (study_shape_in_range s) v) o

      up : SomeEnd Outside b f → SomeEnd Above b f
      up (constant w) = constant (natural_above _ (sym same.constant ∙ x.constant) w)
      up (choice i a h q t w) = choice i a h q t (natural_above _ (sym (same.choice i a h q t) ∙ x.choices i a h q t) w)
      up (entry k a d h q r t w) = entry k a d h q r t (natural_above _ (sym (same.entry k a d h q r t) ∙ x.entries k a d h q r t) w)

      down : SomeEnd Above b f → SomeEnd Outside b f
      down (constant w) = constant (inr w)
      down (choice i a h q t w) = choice i a h q t (inr w)
      down (entry k a d h q r t w) = entry k a d h q r t (inr w)
