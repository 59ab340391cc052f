-- A shift line and the block afterwards, from the line's own characters: u_i and the moves are the numbers that stand at their offsets, and the block that an accepted line leaves
-- has document 01's three equations by them, at permitted entries; forbidden ones stay. 12 is answered exactly where one of these numbers would be below 0 or above L.
use mathlib.Core.Path.{◌≡◌, refl, ap, ◌∙◌}
use mathlib.Core.Bool.{Bool, true, false}
use mathlib.Core.List.{List}
use mathlib.Core.Logic.{◌↔◌}
use Prim.Native.Nat.{ℕ, ◌<◌, ◌≤◌}
use lib.IntN.{ℤ, pos}
use lib.ListN.{length}
use Rattle.theory.proofs.Range.{not_both}
use Rattle.theory.proofs.Lists.{list_nth}
use Rattle.refusals.specs.declared.Refusal.TheVariants.{PartsOutside}
use Rattle.refusals.specs.Verdicts.{Verdict, Declined, unless}
use Rattle.tables.specs.Block.{constant_place, held_choice_place, held_entry_place, at, trains, pairs, size, first, second}
use Rattle.tables.specs.WellFormed.{holds_study, Study}
use Rattle.tables.specs.Plans.{shape_of}
use Rattle.tables.specs.Counts.{move_count}
use Rattle.tables.proofs.Study.{study_of_lem}
use Rattle.rewriting.specs.Judged.{kept}
use Rattle.rewriting.specs.Ends.{Ends, ends_of, SameEnds, Forbidden, Outside, SomeEnd}
use Rattle.shift.specs.Shift.{shifted, shift_outcome, shift_block}
use Rattle.shift.specs.Equations.{constant_end, choice_end, entry_end, shift_ends}
use Rattle.shift.proofs.Equations.{shift_forbidden, shift_declined, shift_ends_lem}
use Rattle.frames.specs.Runs.{signed_run_of}
use Rattle.lines.specs.declared.kind.Kind.TheVariants as kind
use Rattle.lines.specs.declared.request.Shift as declared-shift
use Rattle.lines.specs.declared.request.Request.{Request}
use Rattle.lines.specs.declared.request.Request.TheVariants.{Shift}
use Rattle.lines.specs.Kinds.{kind_number}
use Rattle.lines.specs.Layout.{kind_of, move_width, shift_lift, shift_move, lift_field, move_field}
use Rattle.reader.proofs.LineAccepted.{Makes, line_makes}
use Rattle.replies.specs.Replies.{refusal_reply}
use Rattle.replies.specs.Shown.{accepted}
use Rattle.replies.proofs.Accepted.{refusal_refused, bound_accepted}
use Rattle.requests.specs.Answer.{operated, requested}
use Rattle.requests.specs.Wrote.{Asks}
use Rattle.requests.proofs.Outcomes.{operated_leaves, operated_done}
use Rattle.requests.proofs.LineCases.{fixed_line}
use Rattle.service.specs.Answer.{min_buffer, answer}
use Rattle.claims.proofs.Asking.{kind_known, asks_answered, accepted_call, accepted_asks}

-- where a shift line's own numbers lead
abbrev pub line_ends : List ℕ → List ℤ → Ends
line_ends l b = shift_ends (shift_lift l) (shift_move l (trains b)) b

-- ---- a line that asks for a shift

module _ (l : List ℕ) (b : List ℤ) (buffer : List ℕ) (h : min_buffer ≤ length buffer) (q : declared-shift.Shift) (a : Asks l b (Shift q) (length buffer)) where
  abbrev lifts : List ℤ
  lifts = signed_run_of l lift_field.at move_width (trains b)

  abbrev moves : List ℤ
  moves = signed_run_of l (move_field (trains b)).at move_width (move_count (shape_of b))

  made : Makes l b (Shift q)
  made = (line_makes l b (Shift q) a.asked).1

  study : Study b
  study = study_of_lem b a.right made.2

  answer_is : answer l b buffer ≡ operated kind.Shift (shift_outcome lifts moves b) b (kept b (shifted lifts moves b))
  unfolding requested
  answer_is =
      asks_answered l b buffer h a
      ∙ fixed_line l b (length buffer) a.fits a.right (Shift q) refl a.asked
      ∙ ap (λ (r : Request). requested r l b) made.0

  -- the numbers of the two lists stand in the line
  lift_is : (i : ℕ) → i < trains b → at lifts i ≡ shift_lift l i
  lift_is i h = list_nth (shift_lift l) (pos 0) (trains b) i h

  move_is : (n : ℕ) → n < move_count (shape_of b) → at moves n ≡ shift_move l (trains b) n
  move_is n h = list_nth (shift_move l (trains b)) (pos 0) (move_count (shape_of b)) n h

  -- the block that it leaves
  block_is : (answer l b buffer).block ≡ shift_block lifts moves b
  block_is = rw answer_is (operated_leaves kind.Shift (shift_outcome lifts moves b) b (kept b (shifted lifts moves b)))

  -- an accepted one leaves its own numbers
  asked_ends : accepted (answer l b buffer).reply ≡ true → SameEnds b (ends_of (answer l b buffer).block) (line_ends l b)
  asked_ends y =
      rw block_is
      (shift_ends_lem study lifts moves (shift_lift l) (shift_move l (trains b)) lift_is move_is (operated_done kind.Shift (shift_outcome lifts moves b) b (kept b (shifted lifts moves b)) (rw answer_is at y)))

  -- and a forbidden entry stays so, accepted or not
  asked_forbidden : Forbidden b (ends_of (answer l b buffer).block)
  asked_forbidden = rw block_is (shift_forbidden study lifts moves)

  -- 12 exactly where one of them would be below 0 or above L
  pub shift_line_declined : ((answer l b buffer).reply ≡ refusal_reply PartsOutside) ↔ SomeEnd Outside b (line_ends l b)
  shift_line_declined =
      let d = shift_declined study lifts moves (shift_lift l) (shift_move l (trains b)) lift_is move_is in
      rw answer_is
      ((λ e. d.0 (go (holds_study (kept b (shifted lifts moves b))) e)), (λ w. ap (λ (o : Verdict). (operated kind.Shift o b (kept b (shifted lifts moves b))).reply) (d.1 w)))
    where
      go : (t : Bool) → (operated kind.Shift (unless t PartsOutside) b (kept b (shifted lifts moves b))).reply ≡ refusal_reply PartsOutside → unless t PartsOutside ≡ Declined PartsOutside
      go true e = absurd (not_both (bound_accepted kind.Shift (kept b (shifted lifts moves b))) (ap accepted e ∙ refusal_refused PartsOutside))
      go false e = refl

-- 'c0 grows by the sum of u_i', and the other two equations: the block that an accepted line of kind 03 leaves
pub shift_line : (l : List ℕ) (b : List ℤ) (buffer : List ℕ) → kind_of l ≡ kind_number kind.Shift → accepted (answer l b buffer).reply ≡ true
    → SameEnds b (ends_of (answer l b buffer).block) (line_ends l b)
shift_line l b buffer k y = asked_ends l b buffer (accepted_call l b buffer y).0 _ (accepted_asks l b buffer kind.Shift (kind_known kind.Shift l k) y) y

-- the three equations, each by itself, at permitted entries
module _ (l : List ℕ) (b : List ℤ) (buffer : List ℕ) (k : kind_of l ≡ kind_number kind.Shift) (y : accepted (answer l b buffer).reply ≡ true) where
  pub shift_constant : at (answer l b buffer).block constant_place ≡ constant_end (shift_lift l) b
  shift_constant = (shift_line l b buffer k y).constant

  pub shift_choice : (i a : ℕ) → i < trains b → a < size b i → (shape_of b).choice_open i a ≡ true
      → at (answer l b buffer).block (held_choice_place i a) ≡ choice_end (shift_lift l) (shift_move l (trains b)) b i a
  shift_choice = (shift_line l b buffer k y).choice

  pub shift_entry : (m a c : ℕ) → m < pairs b → a < size b (first b m) → c < size b (second b m) → (shape_of b).entry_open m a c ≡ true
      → at (answer l b buffer).block (held_entry_place m a c) ≡ entry_end (shift_move l (trains b)) b m a c
  shift_entry = (shift_line l b buffer k y).entry

  -- 'Forbidden entries stay so'
  pub shift_closed : Forbidden b (ends_of (answer l b buffer).block)
  shift_closed = asked_forbidden l b buffer (accepted_call l b buffer y).0 _ (accepted_asks l b buffer kind.Shift (kind_known kind.Shift l k) y)
