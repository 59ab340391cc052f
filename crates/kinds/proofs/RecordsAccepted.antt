-- What is known of a line of kind 0C, 0D or 0E once its fields were judged fine: where the line ends, and that its choices are the block's. A line of which that is known is judged fine; every other is declined under 5 or 22.
-- A record's verdict, and what it asks for a screen, are the same of all lines that are equally long and the same up to the bound: no field behind it is judged.
use mathlib.Core.Path.{◌≡◌, sym, ap, ◌∙◌}
use mathlib.Core.Bool.{Bool, true, false}
use mathlib.Core.List.{List}
use mathlib.Core.Logic.{◌⊎◌, inl, inr}
use Prim.Native.Nat.{ℕ, ◌+◌, ◌*◌, ◌<◌, ◌≤◌}
use native.Mathlib.Omega.{arith}
use lib.Dec.{leb, eqb}
use lib.IntN.{ℤ}
use lib.ListN.{length, take}
use borrow.Author.Tests.{le-leb, eq-eqb, ne_eqb}
use Rattle.std.specs.Prelude.{Err}
use Rattle.theory.specs.Lists.{list_of, nth}
use Rattle.theory.proofs.Lists.{list_length, list_nth, list_cong}
use Rattle.refusals.specs.declared.Refusal.{Refusal}
use Rattle.refusals.specs.declared.Refusal.TheVariants.{Fields, NotHeld}
use Rattle.refusals.specs.Verdicts.{Verdict, Fine, then, unless}
use Rattle.refusals.proofs.Verdicts.{then_fine, unless_fine}
use Rattle.tables.specs.Block.{trains}
use Rattle.tables.specs.Plans.{Shape, shape_of, choices_held}
use Rattle.tables.proofs.Held.{held_cong, held_trains}
use Rattle.frames.specs.Digits.{bytes}
use Rattle.frames.specs.Frames.{framed}
use Rattle.frames.proofs.Bytes.{framed_whole}
use Rattle.frames.proofs.Widths.{field_below}
use Rattle.lines.specs.declared.request.Request.TheVariants.{Screen}
use Rattle.lines.specs.Layout.{kind_width, kind_of, numbers_in, end_of, further, count_width, record_trains_field, record_trains, record_choice_field, record_choice, record_bound_field, record_cost_field, plan_choice_field, plan_choice}
use Rattle.lines.specs.Verdicts.{field_verdict, end_verdict, field_run}
use Rattle.lines.proofs.Judged.{field_fine, end_fine}
use Rattle.kinds.specs.Records.{held_verdict, record_verdict, screen_request, plan_verdict}
use Rattle.frames.proofs.Front.{same_field}

-- another number of choices is not held
pub held_other : (s : Shape) (n : ℕ) (x : ℕ → ℕ) → (n ≡ s.trains → ⊥) → choices_held s n x ≡ false
unfolding choices_held
held_other s n x e = rw (ne_eqb n s.trains e)

-- choices that are listed are held where they are
pub held_list : (s : Shape) (n : ℕ) (x : ℕ → ℕ) (p : List ℕ) → p ≡ list_of n x → choices_held s (length p) (nth p) ≡ choices_held s n x
held_list s n x p e =
    ap (λ (q : List ℕ). choices_held s (length q) (nth q)) e
    ∙ ap (λ (m : ℕ). choices_held s m (nth (list_of n x))) (list_length x n)
    ∙ held_cong s n (nth (list_of n x)) x (λ i h. list_nth x 0 n i h)

-- ---- 0C and 0D, a record that is read

-- n, which is judged first, is there, and a byte
pub trains_read : (l : List ℕ) → framed l ≡ true → field_verdict l record_trains_field ≡ Fine → (end_of record_trains_field ≤ bytes l) × (record_trains l < 256)
trains_read l w e =
    let t = (field_fine l record_trains_field e).there in
    (t, field_below (framed_whole l w) record_trains_field.at count_width t)

pub record FineRecord (l : List ℕ) (b : List ℤ) : Type 0 where
  pub ends : bytes l ≡ end_of (record_cost_field (record_trains l))
  pub held : choices_held (shape_of b) (record_trains l) (record_choice l) ≡ true

pub record_fine : (l : List ℕ) (b : List ℤ) → record_verdict l b ≡ Fine → FineRecord l b
unfolding record_verdict
record_fine l b e =
    let end = end_of (record_cost_field (record_trains l)) in
    let held = held_verdict b (record_trains l) (record_choice l) in
    let v = then_fine (field_verdict l record_trains_field) (then (end_verdict (bytes l) end) held) e in
    let w = then_fine (end_verdict (bytes l) end) held v.1 in
    record { ends = sym (end_fine (bytes l) end w.0); held = unless_fine (choices_held (shape_of b) (record_trains l) (record_choice l)) NotHeld w.1 }

-- so its fields are there to be read, and n is a byte
pub record_read : (l : List ℕ) (b : List ℤ) → framed l ≡ true → record_verdict l b ≡ Fine → (bytes l ≡ end_of (record_cost_field (record_trains l))) × (record_trains l < 256)
unfolding record_verdict
record_read l b w e = ((record_fine l b e).ends, (trains_read l w (then_fine (field_verdict l record_trains_field) _ e).0).1)

pub record_intro : {l : List ℕ} {b : List ℤ} → FineRecord l b → record_verdict l b ≡ Fine
unfolding record_verdict field_verdict
record_intro {l} {b} f =
    rw (le-leb (end_of record_trains_field) (bytes l) (omega (arith, f.ends)), eq-eqb (end_of (record_cost_field (record_trains l))) (bytes l) (sym f.ends), f.held)

module _ {l : List ℕ} {b : List ℤ} (f : FineRecord l b) where
  pub record_trains_held : record_trains l ≡ trains b
  record_trains_held = held_trains (shape_of b) (record_trains l) (record_choice l) f.held

  -- its choices stand in the line
  pub record_choices_there : 2 * (record_choice_field.at + count_width * record_trains l) ≤ length l
  record_choices_there = omega (arith, f.ends)

  -- and are the block's, listed
  pub record_listed : choices_held (shape_of b) (record_trains l) (nth (numbers_in l record_choice_field (record_trains l))) ≡ true
  record_listed = held_cong (shape_of b) (record_trains l) _ (record_choice l) (λ i h. list_nth (record_choice l) 0 (record_trains l) i h) ∙ f.held

-- ---- 0E, a plan whose record is to be written

pub record FinePlan (l : List ℕ) (b : List ℤ) : Type 0 where
  pub ends : bytes l ≡ (further plan_choice_field (trains b)).at
  pub held : choices_held (shape_of b) (trains b) (plan_choice l) ≡ true

pub plan_fine : (l : List ℕ) (b : List ℤ) → plan_verdict l b ≡ Fine → FinePlan l b
unfolding plan_verdict
plan_fine l b e =
    let end = (further plan_choice_field (trains b)).at in
    let v = then_fine (end_verdict (bytes l) end) (held_verdict b (trains b) (plan_choice l)) e in
    record { ends = sym (end_fine (bytes l) end v.0); held = unless_fine (choices_held (shape_of b) (trains b) (plan_choice l)) NotHeld v.1 }

pub plan_intro : {l : List ℕ} {b : List ℤ} → FinePlan l b → plan_verdict l b ≡ Fine
unfolding plan_verdict
plan_intro {l} {b} f = rw (eq-eqb (further plan_choice_field (trains b)).at (bytes l) (sym f.ends), f.held)

module _ {l : List ℕ} {b : List ℤ} (f : FinePlan l b) where
  pub plan_choices_there : 2 * (plan_choice_field.at + count_width * trains b) ≤ length l
  plan_choices_there = omega (arith, f.ends)

  pub plan_listed : choices_held (shape_of b) (trains b) (nth (numbers_in l plan_choice_field (trains b))) ≡ true
  plan_listed = held_cong (shape_of b) (trains b) _ (plan_choice l) (λ i h. list_nth (plan_choice l) 0 (trains b) i h) ∙ f.held

-- ---- '5, 22 first, with 9 not used for 0C to 0E'

declined_two : {r : Refusal} (t u : Bool) → then (unless t Fields) (unless u NotHeld) ≡ Err r → (r ≡ Fields) ⊎ (r ≡ NotHeld)
declined_two false u e = inl (cc)
declined_two true false e = inr (cc)
declined_two true true e = cc

pub record_declined : (l : List ℕ) (b : List ℤ) {r : Refusal} → record_verdict l b ≡ Err r → (r ≡ Fields) ⊎ (r ≡ NotHeld)
unfolding record_verdict field_verdict
record_declined l b {r} e = go (leb (end_of record_trains_field) (bytes l)) e
  where
    rest : Verdict
    rest = then (end_verdict (bytes l) (end_of (record_cost_field (record_trains l)))) (held_verdict b (record_trains l) (record_choice l))

    go : (t : Bool) → then (then (unless t Fields) Fine) rest ≡ Err r → (r ≡ Fields) ⊎ (r ≡ NotHeld)
    go false e = inl (cc)
    go true e = declined_two (eqb (end_of (record_cost_field (record_trains l))) (bytes l)) (choices_held (shape_of b) (record_trains l) (record_choice l)) e

pub plan_declined : (l : List ℕ) (b : List ℤ) {r : Refusal} → plan_verdict l b ≡ Err r → (r ≡ Fields) ⊎ (r ≡ NotHeld)
unfolding plan_verdict
plan_declined l b e = declined_two (eqb (further plan_choice_field (trains b)).at (bytes l)) (choices_held (shape_of b) (trains b) (plan_choice l)) e

-- ---- two records that are the same up to the bound

module _ (l k : List ℕ) (long : length l ≡ length k) (e : take (2 * (record_bound_field (record_trains l)).at) l ≡ take (2 * (record_bound_field (record_trains l)).at) k) where
  pub record_trains_front : record_trains l ≡ record_trains k
  record_trains_front = same_field l k (2 * (record_bound_field (record_trains l)).at) e record_trains_field.at count_width (omega arith)

  pub record_kind_front : kind_of l ≡ kind_of k
  record_kind_front = same_field l k (2 * (record_bound_field (record_trains l)).at) e 0 kind_width (omega arith)

  pub record_choice_front : (i : ℕ) → i < record_trains l → record_choice l i ≡ record_choice k i
  record_choice_front i h = same_field l k (2 * (record_bound_field (record_trains l)).at) e (further record_choice_field i).at count_width (omega arith)

  held_front : (b : List ℤ) → choices_held (shape_of b) (record_trains l) (record_choice l) ≡ choices_held (shape_of b) (record_trains k) (record_choice k)
  held_front b =
      held_cong (shape_of b) (record_trains l) (record_choice l) (record_choice k) record_choice_front
      ∙ ap (λ (n : ℕ). choices_held (shape_of b) n (record_choice k)) record_trains_front

  -- 'a screen's answer depends on no bound or cost byte': nor does the verdict on its line
  pub record_verdict_front : (b : List ℤ) → record_verdict l b ≡ record_verdict k b
  unfolding record_verdict field_verdict
  record_verdict_front b = rw (held_front b, record_trains_front, long)

  -- nor what it asks
  pub screen_request_front : screen_request l ≡ screen_request k
  screen_request_front = ap (λ (n : ℕ). Screen (record { choices = field_run record_choice_field.at n })) record_trains_front

  -- nor the choices that it shows
  pub record_choices_front : numbers_in l record_choice_field (record_trains l) ≡ numbers_in k record_choice_field (record_trains k)
  record_choices_front =
      list_cong (record_trains l) (record_choice l) (record_choice k) record_choice_front ∙ ap (λ (n : ℕ). list_of n (record_choice k)) record_trains_front
