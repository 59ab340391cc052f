-- Which places are open: a held cost where its mate in H is, all of the shape and the constant. H is never met by a move, so what is open stays so; and in a study an open number is natural.
use mathlib.Core.Path.{◌≡◌, sym, ap, ◌∙◌}
use mathlib.Core.Bool.{true}
use mathlib.Core.List.{List}
use mathlib.Core.Logic.{inl, inr, ⊎_elim, dite}
use Prim.Native.Nat.{ℕ, ◌+◌, ◌-◌, ◌<◌, ◌≤◌}
use native.Mathlib.Decide.{dec_lt}
use native.Mathlib.Omega.{arith}
use lib.IntN.{ℤ, pos}
use lib.ListN.{length}
use borrow.Author.Tests.{lt-ltb, le-ltb}
use Rattle.tables.specs.Block.{max_trains, max_choices, max_pairs, constant_place, loaded_choices_from, held_choices_from, loaded_entries_from, held_entries_from, order_from, loaded_choice_place, held_choice_place, loaded_entry_place, held_entry_place, at, figure}
use Rattle.tables.specs.WellFormed.{is_open, Study}
use Rattle.tables.proofs.Mates.{mate_open}
use Rattle.tables.proofs.Limits.{open_natural}
use Rattle.tables.proofs.Study.{shape_natural}
use Rattle.rewriting.specs.declared.sides.PlaceRun.{PlaceRun}
use Rattle.rewriting.specs.Moves.{RunIn, run_place}
use Rattle.rewriting.specs.Leasts.{HeldPlace, HeldRun, mate_place, open_place, NonNegative}
use Rattle.rewriting.proofs.Shape.{Loaded, SameLoaded}

-- ---- mates

pub mate_choices : (p : ℕ) → held_choices_from ≤ p → p < loaded_entries_from → mate_place p ≡ p - (held_choices_from - loaded_choices_from)
unfolding mate_place
mate_choices p h q = rw (le-ltb p held_choices_from h, lt-ltb p loaded_entries_from q)

pub mate_entries : (p : ℕ) → held_entries_from ≤ p → p < order_from → mate_place p ≡ p - (held_entries_from - loaded_entries_from)
unfolding mate_place
mate_entries p h q = rw (le-ltb p held_choices_from (omega arith), le-ltb p loaded_entries_from (omega arith), le-ltb p held_entries_from h, lt-ltb p order_from q)

mate_loaded_choices : (p : ℕ) → p < held_choices_from → mate_place p ≡ p
unfolding mate_place
mate_loaded_choices p h = rw (lt-ltb p held_choices_from h)

mate_loaded_entries : (p : ℕ) → loaded_entries_from ≤ p → p < held_entries_from → mate_place p ≡ p
unfolding mate_place
mate_loaded_entries p h q = rw (le-ltb p held_choices_from (omega arith), le-ltb p loaded_entries_from h, lt-ltb p held_entries_from q)

mate_order : (p : ℕ) → order_from ≤ p → mate_place p ≡ p
unfolding mate_place
mate_order p h = rw (le-ltb p held_choices_from (omega arith), le-ltb p loaded_entries_from (omega arith), le-ltb p held_entries_from (omega arith), le-ltb p order_from h)

-- the four tables of a block, and its order
pub by_table : (P : ℕ → Type 0) (p : ℕ) → loaded_choices_from ≤ p
    → (p < held_choices_from → P p)
    → (held_choices_from ≤ p → p < loaded_entries_from → P p)
    → (loaded_entries_from ≤ p → p < held_entries_from → P p)
    → (held_entries_from ≤ p → p < order_from → P p)
    → (order_from ≤ p → P p)
    → P p
by_table P p l x y z w v =
    dite (dec_lt p held_choices_from) (λ (q : p < held_choices_from). x q)
    (λ n. dite (dec_lt p loaded_entries_from) (λ (q : p < loaded_entries_from). y (omega arith) q)
    (λ m. dite (dec_lt p held_entries_from) (λ (q : p < held_entries_from). z (omega arith) q)
    (λ o. dite (dec_lt p order_from) (λ (q : p < order_from). w (omega arith) q) (λ k. v (omega arith)))))

-- a mate is a place of H, or of the order
pub mate_loaded : (p : ℕ) → loaded_choices_from ≤ p → Loaded (mate_place p)
mate_loaded p l =
    by_table (λ q. Loaded (mate_place q)) p l
    (λ q. rw (mate_loaded_choices p q) (record { table = inl (record { low = l; high = q }) }))
    (λ q r. rw (mate_choices p q r) (record { table = inl (record { low = omega arith; high = omega arith }) }))
    (λ q r. rw (mate_loaded_entries p q r) (record { table = inr (inl (record { low = q; high = r })) }))
    (λ q r. rw (mate_entries p q r) (record { table = inr (inl (record { low = omega arith; high = omega arith })) }))
    (λ q. rw (mate_order p q) (record { table = inr (inr q) }))

-- a mate stands before its place
pub held-mate : {p : ℕ} → HeldPlace p → mate_place p < p
held-mate {p} h =
    ⊎_elim (λ (q : p < loaded_entries_from). omega (arith, h.low, mate_choices p h.low q)) (λ (q : held_entries_from ≤ p). omega (arith, mate_entries p q h.high)) h.table

-- so does the mate of each place of a run
pub mate_within : {b : List ℤ} {r : PlaceRun} → RunIn b r → HeldRun r → (i : ℕ) → i < r.count → mate_place (run_place r i) < length b
mate_within o h i l = omega (arith, held-mate (h.held i l), o.inside i l)

-- ---- open places

module _ (b : List ℤ) where
  open_head : (p : ℕ) → p < loaded_choices_from → open_place b p ≡ true
  unfolding open_place
  open_head p h = rw (lt-ltb p loaded_choices_from h)

  pub open_constant : open_place b constant_place ≡ true
  open_constant = open_head constant_place (omega arith)

  -- a cost by its mate
  pub open_cost : (p : ℕ) → loaded_choices_from ≤ p → open_place b p ≡ is_open (at b (mate_place p))
  unfolding open_place
  open_cost p h = rw (le-ltb p loaded_choices_from h)

  pub open_choice : (i a : ℕ) → i < max_trains → a < max_choices → open_place b (held_choice_place i a) ≡ is_open (at b (loaded_choice_place i a))
  open_choice i a h q =
      let p = held_choice_place i a in
      let e : p - (held_choices_from - loaded_choices_from) ≡ loaded_choice_place i a = omega arith in
      open_cost p (omega arith) ∙ ap (λ (n : ℕ). is_open (at b n)) (mate_choices p (omega arith) (omega arith) ∙ e)

  pub open_entry : (k a c : ℕ) → k < max_pairs → a < max_choices → c < max_choices → open_place b (held_entry_place k a c) ≡ is_open (at b (loaded_entry_place k a c))
  open_entry k a c h q r =
      let p = held_entry_place k a c in
      let e : p - (held_entries_from - loaded_entries_from) ≡ loaded_entry_place k a c = omega arith in
      open_cost p (omega arith) ∙ ap (λ (n : ℕ). is_open (at b n)) (mate_entries p (omega arith) (omega arith) ∙ e)

  -- where no number is below 0, every place is open
  pub open_all : ((p : ℕ) → is_open (at b p) ≡ true) → (p : ℕ) → open_place b p ≡ true
  open_all plain p = dite (dec_lt p loaded_choices_from) (λ (h : p < loaded_choices_from). open_head p h) (λ n. open_cost p (omega arith) ∙ plain (mate_place p))

-- what is open stays so while H does
pub open_same : {b c : List ℤ} → SameLoaded b c → (p : ℕ) → open_place c p ≡ open_place b p
open_same {b} {c} e p =
    dite (dec_lt p loaded_choices_from) (λ (q : p < loaded_choices_from). open_head c p q ∙ sym (open_head b p q))
    (λ n. let l : loaded_choices_from ≤ p = omega arith in open_cost c p l ∙ ap is_open (e.loaded (mate_place p) (mate_loaded p l)) ∙ sym (open_cost b p l))

-- ---- a study: T is open where H is, so an open number is not below 0

module _ {b : List ℤ} (s : Study b) where
  pub mates_open : (p : ℕ) → loaded_choices_from ≤ p → is_open (at b (mate_place p)) ≡ is_open (at b p)
  mates_open p l =
      by_table (λ q. is_open (at b (mate_place q)) ≡ is_open (at b q)) p l
      (λ q. ap (λ (n : ℕ). is_open (at b n)) (mate_loaded_choices p q))
      (λ q r. let o = p - held_choices_from in
      let e : p - (held_choices_from - loaded_choices_from) ≡ loaded_choices_from + o = omega arith in
      let f : held_choices_from + o ≡ p = omega arith in
      ap (λ (n : ℕ). is_open (at b n)) (mate_choices p q r ∙ e) ∙ mate_open _ _ (s.choices_mated o (omega arith)) ∙ ap (λ (n : ℕ). is_open (at b n)) f)
      (λ q r. ap (λ (n : ℕ). is_open (at b n)) (mate_loaded_entries p q r))
      (λ q r. let o = p - held_entries_from in
      let e : p - (held_entries_from - loaded_entries_from) ≡ loaded_entries_from + o = omega arith in
      let f : held_entries_from + o ≡ p = omega arith in
      ap (λ (n : ℕ). is_open (at b n)) (mate_entries p q r ∙ e) ∙ mate_open _ _ (s.entries_mated o (omega arith)) ∙ ap (λ (n : ℕ). is_open (at b n)) f)
      (λ q. ap (λ (n : ℕ). is_open (at b n)) (mate_order p q))

  pub study_non_negative : NonNegative b
  study_non_negative =
      record {
        natural = λ p h e.
            dite (dec_lt p loaded_choices_from) (λ (q : p < loaded_choices_from). shape_natural s p q)
            (λ n. let l : loaded_choices_from ≤ p = omega arith in open_natural b p (sym (mates_open p l) ∙ sym (open_cost b p l) ∙ e));
      }

  pub study_constant : at b constant_place ≡ pos (figure b constant_place)
  study_constant = study_non_negative.natural constant_place (omega arith) (open_constant b)
