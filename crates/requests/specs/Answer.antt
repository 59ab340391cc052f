-- Document 01: the answer to a line on a well-formed block, from the line, the block and the room for the reply to the block and the reply.
use Rattle.theory.specs.Lists.{nth}
use Rattle.std.specs.Prelude.{Bool, true, false, cond, List, [], ℕ, ltb, ℤ, length, Result, Ok, Err}
use Rattle.refusals.specs.declared.Refusal.{Refusal}
use Rattle.refusals.specs.declared.Refusal.TheVariants.{Figures, Tries}
use Rattle.refusals.specs.Verdicts.{Verdict}
use Rattle.units.specs.Units.{number_of_points}
use Rattle.tables.specs.Block.{trains}
use Rattle.tables.specs.Plans.{loaded_total}
use Rattle.bounds.specs.Bounds.{bound_of}
use Rattle.records.specs.Records.{record_right}
use Rattle.dearest.specs.Dearest.{tries_within, dearest}
use Rattle.operations.specs.Add.{added, add_outcome}
use Rattle.operations.specs.Load.{loaded_block}
use Rattle.operations.specs.Order.{ordered_block}
use Rattle.operations.specs.Saved.{saved_numbers}
use Rattle.rewriting.specs.Judged.{kept}
use Rattle.clauses.specs.Outcomes.{clauses_outcome}
use Rattle.shift.specs.Shift.{shifted, shift_outcome}
use Rattle.tighten.specs.Tighten.{tightened, tighten_outcome}
use Rattle.directional.specs.Directional.{directed, direct_outcome}
use Rattle.certificates.specs.declared.certify.Ceiling.{Ceiling}
use Rattle.certificates.specs.Certify.{weights_of, certificate}
use Rattle.frames.specs.Runs.{run_of, signed_run_of}
use Rattle.lines.specs.declared.kind.Kind.{Kind}
use Rattle.lines.specs.declared.request.FieldRun.{FieldRun}
use Rattle.lines.specs.declared.kind.Kind.TheVariants as kind
use Rattle.lines.specs.declared.request.Request.{Request}
use Rattle.lines.specs.declared.request.Request.TheVariants.{Load, Add, Shift, Tighten, Certify, Search, Save, Round, Clauses, Explain, Order, Screen, Planner, Record, Dearest}
use Rattle.lines.specs.declared.request.Line.{Line}
use Rattle.lines.specs.declared.request.Line.TheVariants.{Asked, Refused}
use Rattle.lines.specs.Layout.{count_width, move_width, weight_width}
use Rattle.lines.specs.Text.{load_digits}
use Rattle.decoding.specs.Numbers.{numbers_of}
use Rattle.decoding.specs.Clauses.{clauses_of, clause_numbers_of}
use Rattle.reader.specs.Reading.{line_of}
use Rattle.reasons.specs.Reasons.{reason_at}
use Rattle.search.specs.Answer.{search_answer}
use Rattle.replies.specs.Replies.{refusal_reply, bound_reply, certify_reply, search_reply, reason_reply, order_reply, screen_reply, record_reply}

-- the block after the call, and the reply
pub record Answer : Type 0 where
  pub block : List ℤ
  pub reply : List ℕ

abbrev pub answered : List ℤ → List ℕ → Answer
answered b reply = record { block = b; reply = reply }

-- 'A declined line answers FF and the number as one byte, and leaves the block'
abbrev pub declined : List ℤ → Refusal → Answer
declined b r = answered b (refusal_reply r)

-- an operation that ends at `new` and is done answers with the new constant and bound, a directional round too: 'The reply is 88 with constant and bound; 12 applies'; a declined one, 10, 12 or
-- 20, leaves the block
abbrev pub operated : Kind → Verdict → List ℤ → List ℤ → Answer
operated kind (Ok _) old new = answered new (bound_reply kind new)
operated kind (Err r) old new = declined old r

-- 'Certify and search change nothing in the block'; 14 where the sums disagree; then 18, 'a weight above 0 on a forbidden entry, after 14'
abbrev pub certified : ℕ → Result Ceiling Refusal → List ℤ → Answer
certified full_weight (Ok c) b = answered b (certify_reply full_weight c)
certified full_weight (Err r) b = declined b r

-- 'Kind 07, with no fields, answers with a load line for H'; it changes nothing in the block
abbrev pub saved : List ℤ → Answer
saved b = answered b (load_digits (saved_numbers b))

-- document 02, change 11: a record with this bound and this cost, where it is right, else 23; it changes nothing in the block
abbrev pub recorded : Kind → List ℕ → ℕ → ℕ → List ℤ → Answer
recorded kind choices bound cost b = cond (record_right b (nth choices) bound cost) (answered b (record_reply kind choices bound cost)) (declined b Figures)

-- the choices, or the sizes, that a line gives
abbrev pub choices_in : List ℕ → FieldRun → List ℕ
choices_in l run = run_of l run.at count_width run.count

-- document 02, change 13: the dearest study of these sizes, as the line that loads it; '24, that sum exceeds 10,000,000, after 5'. It changes nothing in the block
abbrev pub dearest_given : List ℕ → List ℤ → Answer
dearest_given sizes b = cond (tries_within sizes) (answered b (load_digits (dearest sizes))) (declined b Tries)

-- what each request does, with the long fields read from the line. 'Forbidden entries stay so': where moves end, what is forbidden is `kept`
unfoldable pub requested : Request → List ℕ → List ℤ → Answer
requested (Load q) l b = answered (loaded_block (numbers_of l)) (bound_reply kind.Load (loaded_block (numbers_of l)))
requested (Add q) l b = operated kind.Add (add_outcome q.train q.choice (number_of_points q.points) b) b (added q.train q.choice (number_of_points q.points) b)
requested (Shift q) l b =
    let lifts = signed_run_of l q.lifts.at move_width q.lifts.count in
    let moves = signed_run_of l q.moves.at move_width q.moves.count in
    operated kind.Shift (shift_outcome lifts moves b) b (kept b (shifted lifts moves b))
requested Tighten l b = operated kind.Tighten (tighten_outcome b) b (kept b (tightened b))
requested (Certify q) l b = certified q.full (certificate b (weights_of b q.full (run_of l q.weights.at weight_width q.weights.count))) b
requested (Search q) l b = answered b (search_reply (trains b) (search_answer b q.budget))
requested Save l b = saved b
requested Round l b = operated kind.Round (direct_outcome b) b (kept b (directed b))
requested (Clauses q) l b = operated kind.Clauses (clauses_outcome q.trains q.scale (clauses_of l)) b (loaded_block (clause_numbers_of l))
requested (Explain q) l b = answered b (reason_reply (reason_at b q.train q.choice (number_of_points q.limit)))
requested (Order q) l b = let trains = run_of l q.trains.at count_width q.trains.count in answered (ordered_block trains b) (order_reply trains)
requested (Screen q) l b = answered b (screen_reply (choices_in l q.choices))
requested (Planner q) l b = recorded kind.Planner (choices_in l q.choices) (number_of_points q.bound) (number_of_points q.cost) b
requested (Record q) l b = let choices = choices_in l q.choices in recorded kind.Record choices (bound_of b) (loaded_total b (nth choices)) b
requested (Dearest q) l b = dearest_given (choices_in l q.sizes) b

-- what a line asks, done, or the refusal
abbrev pub carried_out : Line → List ℕ → List ℤ → Answer
carried_out (Asked q) l b = requested q l b
carried_out (Refused r) l b = declined b r

-- the kinds whose replies are fixed: none is longer than the longest fixed reply, whatever the study
abbrev pub fixed_reply : Kind → Bool
fixed_reply kind.Load = true
fixed_reply kind.Add = true
fixed_reply kind.Shift = true
fixed_reply kind.Tighten = true
fixed_reply kind.Certify = true
fixed_reply kind.Search = true
fixed_reply kind.Save = false
fixed_reply kind.Round = true
fixed_reply kind.Clauses = true
fixed_reply kind.Explain = true
fixed_reply kind.Order = true
fixed_reply kind.Screen = true
fixed_reply kind.Planner = false
fixed_reply kind.Record = false
fixed_reply kind.Dearest = false

-- the kinds that leave the block as it was, accepted or declined: 'Certify and search change nothing in the block', nor does a save, a reason, a record or the dearest study
abbrev pub leaves_block : Kind → Bool
leaves_block kind.Load = false
leaves_block kind.Add = false
leaves_block kind.Shift = false
leaves_block kind.Tighten = false
leaves_block kind.Certify = true
leaves_block kind.Search = true
leaves_block kind.Save = true
leaves_block kind.Round = false
leaves_block kind.Clauses = false
leaves_block kind.Explain = true
leaves_block kind.Order = false
leaves_block kind.Screen = true
leaves_block kind.Planner = true
leaves_block kind.Record = true
leaves_block kind.Dearest = true

-- 17: a reply that is longer than the room for it 'hands back an empty part and writes nothing', and leaves the block
abbrev pub fitted : ℕ → List ℤ → Answer → Answer
fitted room b a = cond (ltb room (length a.reply)) (answered b []) a

-- the answer to a line on a well-formed block, where the reply may have `room` characters
unfoldable pub line_answer : List ℕ → List ℤ → ℕ → Answer
line_answer l b room = fitted room b (carried_out (line_of l b) l b)
