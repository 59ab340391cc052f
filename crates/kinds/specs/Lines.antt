-- Document 01, 'Lines' and 'What is declined': of each kind, the first reason to decline a line, by its fields and by a block that holds a study, and the request that it makes.
use Rattle.std.specs.Prelude.{cond, ◌&&◌, List, ℕ, ℤ, Result}
use Rattle.refusals.specs.declared.Refusal.{Refusal}
use Rattle.refusals.specs.declared.Refusal.TheVariants.{FreshBlock, Order as order_refused}
use Rattle.units.specs.Units.{the_points}
use Rattle.theory.specs.Order.{each_once}
use Rattle.refusals.specs.Verdicts.{Verdict, then, unless}
use Rattle.tables.specs.Block.{trains, size}
use Rattle.tables.specs.WellFormed.{is_fresh}
use Rattle.tables.specs.Plans.{shape_of}
use Rattle.tables.specs.Counts.{move_count, weight_count}
use Rattle.frames.specs.Digits.{bytes}
use Rattle.lines.specs.declared.kind.Kind.{Kind}
use Rattle.lines.specs.declared.kind.Kind.TheVariants as kind
use Rattle.lines.specs.declared.field.Field.{Field}
use Rattle.lines.specs.declared.request.Request.{Request}
use Rattle.lines.specs.declared.request.Request.TheVariants.{Add, Shift, Tighten, Certify, Search, Save, Round, Explain, Order}
use Rattle.lines.specs.declared.request.Line.{Line}
use Rattle.lines.specs.declared.request.Line.TheVariants.{Refused}
use Rattle.lines.specs.Kinds.{needs_study}
use Rattle.lines.specs.Asked.{request_if, line_from}
use Rattle.lines.specs.Layout.{kind_width, below, add_train_field, add_train, add_choice_field, add_choice, points_field, add_points, lift_field, move_field, full_weight_field, certify_full_weight, weight_field, budget_field, search_budget, explain_train, explain_choice, limit_field, explain_limit, further, order_field, order_train}
use Rattle.lines.specs.Verdicts.{field_verdict, end_verdict, last_verdict, runs_verdict, field_run}
use Rattle.kinds.specs.Load.{load_verdict, load_request}
use Rattle.kinds.specs.Clauses.{clauses_verdict, clauses_request}
use Rattle.kinds.specs.Records.{record_verdict, screen_request, planner_request, plan_verdict, plan_request}
use Rattle.kinds.specs.Dearest.{dearest_verdict, dearest_request}

-- a kind without fields: '04 tighten: no fields', 07 save and 08, a directional round
abbrev pub bare_verdict : List ℕ → Verdict
bare_verdict l = end_verdict (bytes l) kind_width

-- a train, a choice and a last field; 9: 'train or choice absent'
abbrev pub choice_verdict : List ℕ → List ℤ → Field → Verdict
choice_verdict l b f =
    then (field_verdict l (below add_train_field (trains b)))
    (then (field_verdict l (below add_choice_field (size b (add_train l)))) (last_verdict l f))

unfoldable pub add_verdict : List ℕ → List ℤ → Verdict
add_verdict l b = choice_verdict l b points_field

abbrev pub add_request : List ℕ → Request
add_request l = Add (record { train = add_train l; choice = add_choice l; points = the_points (add_points l) })

-- n lifts, and so many moves
unfoldable pub shift_verdict : List ℕ → ℕ → ℕ → Verdict
shift_verdict l n moves = runs_verdict l lift_field n (move_field n) moves

abbrev pub shift_request : ℕ → ℕ → Request
shift_request n moves = Shift (record { lifts = field_run lift_field.at n; moves = field_run (move_field n).at moves })

-- W, and so many weights
unfoldable pub certify_verdict : List ℕ → ℕ → Verdict
certify_verdict l weights = runs_verdict l full_weight_field 1 weight_field weights

abbrev pub certify_request : List ℕ → ℕ → Request
certify_request l weights = Certify (record { full = certify_full_weight l; weights = field_run weight_field.at weights })

unfoldable pub search_verdict : List ℕ → Verdict
search_verdict l = last_verdict l budget_field

abbrev pub search_request : List ℕ → Request
search_request l = Search (record { budget = search_budget l })

-- document 02, change 8: '9 applies'
unfoldable pub explain_verdict : List ℕ → List ℤ → Verdict
explain_verdict l b = choice_verdict l b limit_field

abbrev pub explain_request : List ℕ → Request
explain_request l = Explain (record { train = explain_train l; choice = explain_choice l; limit = the_points (explain_limit l) })

-- document 02, change 10: n train numbers, n being the block's; '21, not each train exactly once, after 5 (9 isn't used for 0B)'
unfoldable pub order_verdict : List ℕ → ℕ → Verdict
order_verdict l n = then (end_verdict (bytes l) (further order_field n).at) (unless (each_once n (order_train l)) order_refused)

abbrev pub order_request : ℕ → Request
order_request n = Order (record { trains = field_run order_field.at n })

-- ---- by kind

abbrev pub concluded : Verdict → Request → Line
concluded v q = line_from (request_if v q)

-- the fields of each kind, judged, and the request that they make
abbrev pub kind_verdict : Kind → List ℕ → List ℤ → Verdict
kind_verdict kind.Load l b = load_verdict l
kind_verdict kind.Add l b = add_verdict l b
kind_verdict kind.Shift l b = shift_verdict l (trains b) (move_count (shape_of b))
kind_verdict kind.Tighten l b = bare_verdict l
kind_verdict kind.Certify l b = certify_verdict l (weight_count (shape_of b))
kind_verdict kind.Search l b = search_verdict l
kind_verdict kind.Save l b = bare_verdict l
kind_verdict kind.Round l b = bare_verdict l
kind_verdict kind.Clauses l b = clauses_verdict l
kind_verdict kind.Explain l b = explain_verdict l b
kind_verdict kind.Order l b = order_verdict l (trains b)
kind_verdict kind.Screen l b = record_verdict l b
kind_verdict kind.Planner l b = record_verdict l b
kind_verdict kind.Record l b = plan_verdict l b
kind_verdict kind.Dearest l b = dearest_verdict l

abbrev pub kind_request : Kind → List ℕ → List ℤ → Request
kind_request kind.Load l b = load_request l
kind_request kind.Add l b = add_request l
kind_request kind.Shift l b = shift_request (trains b) (move_count (shape_of b))
kind_request kind.Tighten l b = Tighten
kind_request kind.Certify l b = certify_request l (weight_count (shape_of b))
kind_request kind.Search l b = search_request l
kind_request kind.Save l b = Save
kind_request kind.Round l b = Round
kind_request kind.Clauses l b = clauses_request l
kind_request kind.Explain l b = explain_request l
kind_request kind.Order l b = order_request (trains b)
kind_request kind.Screen l b = screen_request l
kind_request kind.Planner l b = planner_request l
kind_request kind.Record l b = plan_request (trains b)
kind_request kind.Dearest l b = dearest_request l

abbrev pub fields_asked : Kind → List ℕ → List ℤ → Result Request Refusal
fields_asked k l b = request_if (kind_verdict k l b) (kind_request k l b)

abbrev pub fields_line : Kind → List ℕ → List ℤ → Line
fields_line k l b = concluded (kind_verdict k l b) (kind_request k l b)

-- 4: a kind that needs a study, 'on a fresh block'
unfoldable pub study_line : Kind → List ℕ → List ℤ → Line
study_line k l b = cond (needs_study k && is_fresh b) (Refused FreshBlock) (fields_line k l b)
