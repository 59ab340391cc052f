-- Document 02, change 11: lines of 0C, 0D and 0E, the first reason to decline one, 'Both follow 5, 22 first, with 9 not used for 0C to 0E', and the request that it makes.
use Rattle.std.specs.Prelude.{List, ℕ, ℤ}
use Rattle.refusals.specs.declared.Refusal.TheVariants.{NotHeld}
use Rattle.refusals.specs.Verdicts.{Verdict, then, unless}
use Rattle.units.specs.Units.{the_points}
use Rattle.tables.specs.Block.{trains}
use Rattle.tables.specs.Plans.{shape_of, choices_held}
use Rattle.frames.specs.Digits.{bytes}
use Rattle.lines.specs.declared.request.Request.{Request}
use Rattle.lines.specs.declared.request.Request.TheVariants.{Screen, Planner, Record}
use Rattle.lines.specs.Layout.{end_of, further, record_trains_field, record_trains, record_choice_field, record_choice, record_bound, record_cost_field, record_cost, plan_choice_field, plan_choice}
use Rattle.lines.specs.Verdicts.{field_verdict, end_verdict, field_run}

-- '22, n or a choice not the block's'
abbrev pub held_verdict : List ℤ → ℕ → (ℕ → ℕ) → Verdict
held_verdict b n x = unless (choices_held (shape_of b) n x) NotHeld

-- 'A record read is as long as its own first byte says'
unfoldable pub record_verdict : List ℕ → List ℤ → Verdict
record_verdict l b =
    then (field_verdict l record_trains_field) (then (end_verdict (bytes l) (end_of (record_cost_field (record_trains l)))) (held_verdict b (record_trains l) (record_choice l)))

-- 'Kind 0C reads one for screens'
abbrev pub screen_request : List ℕ → Request
screen_request l = Screen (record { choices = field_run record_choice_field.at (record_trains l) })

-- 'Kind 0D reads one for planners'
abbrev pub planner_request : List ℕ → Request
planner_request l =
    Planner (record { choices = field_run record_choice_field.at (record_trains l); bound = the_points (record_bound l); cost = the_points (record_cost l) })

-- 'Kind 0E with n choices, n being the block's, writes one'
unfoldable pub plan_verdict : List ℕ → List ℤ → Verdict
plan_verdict l b = then (end_verdict (bytes l) (further plan_choice_field (trains b)).at) (held_verdict b (trains b) (plan_choice l))

abbrev pub plan_request : ℕ → Request
plan_request n = Record (record { choices = field_run plan_choice_field.at n })
