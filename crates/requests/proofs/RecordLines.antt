-- What an accepted line of kind 0C, 0D or 0E is: its choices are the block's, the figures of its record are right, and there is room for it. And the other way: such a line is accepted.
use mathlib.Core.Path.{◌≡◌, refl, subst, ◌∙◌}
use mathlib.Core.Bool.{true}
use mathlib.Core.List.{List}
use Prim.Native.Nat.{ℕ, ◌≤◌}
use lib.IntN.{ℤ}
use lib.ListN.{length}
use Rattle.theory.specs.Lists.{nth}
use Rattle.tables.specs.Block.{trains}
use Rattle.tables.specs.WellFormed.{well_formed}
use Rattle.tables.specs.Plans.{loaded_total}
use Rattle.bounds.specs.Bounds.{bound_of}
use Rattle.records.specs.Records.{record_right}
use Rattle.lines.specs.declared.kind.Kind.{Kind}
use Rattle.lines.specs.declared.kind.Kind.TheVariants as kind
use Rattle.lines.specs.declared.request.FieldRun.{FieldRun}
use Rattle.lines.specs.declared.request.Line.TheVariants.{Asked}
use Rattle.lines.specs.Layout.{record_choice_field, record_trains, record_bound, record_cost, plan_choice_field}
use Rattle.lines.specs.Verdicts.{field_run}
use Rattle.kinds.specs.Records.{screen_request, planner_request, plan_request}
use Rattle.reader.specs.Reading.{line_of}
use Rattle.replies.specs.Replies.{screen_reply, record_reply, longest_fixed}
use Rattle.replies.specs.Shown.{accepted}
use Rattle.requests.specs.Answer.{Answer, answered, recorded, choices_in, requested, line_answer}
use Rattle.requests.specs.Wrote.{Asks, Chooses}
use Rattle.requests.proofs.Ready.{screen_ready, planner_ready, plan_ready}
use Rattle.requests.proofs.Records.{accepted_right, recorded_right}
use Rattle.requests.proofs.LineCases.{accepted_line, short_line, fixed_line}

-- the choices of a record that is read, and those of a plan whose record is to be written
abbrev pub record_run : List ℕ → FieldRun
record_run l = field_run record_choice_field.at (record_trains l)

abbrev pub plan_run : ℕ → FieldRun
plan_run n = field_run plan_choice_field.at n

-- an answer that is a record with this bound and this cost of the choices that a line gives
pub record IsRecord (l : List ℕ) (b : List ℤ) (room : ℕ) (kind : Kind) (run : FieldRun) (bound cost : ℕ) (a : Answer) : Type 0 where
  pub chooses : Chooses l b run
  pub right : record_right b (nth (choices_in l run)) bound cost ≡ true
  pub fits : length (record_reply kind (choices_in l run) bound cost) ≤ room
  pub is : a ≡ answered b (record_reply kind (choices_in l run) bound cost)

module _ (l : List ℕ) (b : List ℤ) (room : ℕ) where
  module _ (y : accepted (line_answer l b room).reply ≡ true) where
    -- 0C
    pub screen_accepted_line : Asks l b (screen_request l) room → Chooses l b (record_run l) × (line_answer l b room ≡ answered b (screen_reply (choices_in l (record_run l))))
    unfolding requested
    screen_accepted_line a = (screen_ready a, (accepted_line l b room y (screen_request l) a.asked).1)

    -- a record in answer to a request
    as_record : (kind : Kind) (run : FieldRun) (bound cost : ℕ) → Chooses l b run
        → (length (recorded kind (choices_in l run) bound cost b).reply ≤ room) × (line_answer l b room ≡ recorded kind (choices_in l run) bound cost b)
        → IsRecord l b room kind run bound cost (line_answer l b room)
    as_record kind run bound cost c a =
        let r = accepted_right kind (choices_in l run) bound cost b (subst (λ (x : Answer). accepted x.reply ≡ true) a.1 y) in
        let i = recorded_right kind (choices_in l run) bound cost b r in
        record { chooses = c; right = r; fits = rw i at a.0; is = a.1 ∙ i }

    -- 0D
    pub planner_accepted_line : Asks l b (planner_request l) room → IsRecord l b room kind.Planner (record_run l) (record_bound l) (record_cost l) (line_answer l b room)
    unfolding requested
    planner_accepted_line a = as_record kind.Planner (record_run l) (record_bound l) (record_cost l) (planner_ready a) (accepted_line l b room y (planner_request l) a.asked)

    -- 0E
    pub plan_accepted_line : Asks l b (plan_request (trains b)) room
        → IsRecord l b room kind.Record (plan_run (trains b)) (bound_of b) (loaded_total b (nth (choices_in l (plan_run (trains b))))) (line_answer l b room)
    unfolding requested
    plan_accepted_line a =
        let run = plan_run (trains b) in
        as_record kind.Record run (bound_of b) (loaded_total b (nth (choices_in l run))) (plan_ready a) (accepted_line l b room y (plan_request (trains b)) a.asked)

  -- ---- the other way

  pub screen_given : longest_fixed ≤ room → well_formed b ≡ true → line_of l b ≡ Asked (screen_request l) → line_answer l b room ≡ answered b (screen_reply (choices_in l (record_run l)))
  unfolding requested
  screen_given h right e = fixed_line l b room h right (screen_request l) refl e

  pub planner_given : line_of l b ≡ Asked (planner_request l) → record_right b (nth (choices_in l (record_run l))) (record_bound l) (record_cost l) ≡ true
      → length (record_reply kind.Planner (choices_in l (record_run l)) (record_bound l) (record_cost l)) ≤ room
      → line_answer l b room ≡ answered b (record_reply kind.Planner (choices_in l (record_run l)) (record_bound l) (record_cost l))
  unfolding requested
  planner_given e r f =
      let i = recorded_right kind.Planner (choices_in l (record_run l)) (record_bound l) (record_cost l) b r in
      short_line l b room (planner_request l) e (rw i f) ∙ i
