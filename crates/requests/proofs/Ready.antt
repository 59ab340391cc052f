-- What an accepted line gives to the function for its request: the study, the request's fields, where they stand, and their ranges. What rewrites a study leaves one.
use mathlib.Core.Path.{◌≡◌, refl, ◌∙◌}
use mathlib.Core.Bool.{true}
use mathlib.Core.List.{List}
use mathlib.Core.Logic.{dite}
use Prim.Native.Nat.{ℕ, ◌+◌, ◌*◌, ◌<◌, ◌≤◌}
use native.Mathlib.Decide.{dec_lt}
use native.Mathlib.Omega.{arith}
use lib.IntN.{ℤ, pos, negsuc, nat_abs}
use lib.ListN.{length}
use lib.Signed.{mag}
use Rattle.theory.proofs.Lists.{list_length, list_nth, list_past}
use Rattle.theory.proofs.Order.{once_cong}
use Rattle.units.specs.Units.{the_points}
use Rattle.refusals.specs.Verdicts.{Fine}
use Rattle.tables.specs.Block.{trains}
use Rattle.tables.specs.LineLimits.{max_move, max_budget}
use Rattle.tables.specs.WellFormed.{Study}
use Rattle.tables.specs.Plans.{shape_of}
use Rattle.tables.specs.Counts.{move_count, weight_count}
use Rattle.tables.proofs.Counting.{move_count_most, weight_count_most}
use Rattle.tables.proofs.Study.{study_of_lem, trains_range}
use Rattle.rewriting.proofs.Rewritten.{judged_study}
use Rattle.shift.specs.Shift.{SmallMoves, shift_block}
use Rattle.shift.proofs.Ends.{shift_rewrites}
use Rattle.tighten.specs.Tighten.{tighten_block}
use Rattle.tighten.proofs.Ends.{tighten_rewrites}
use Rattle.directional.specs.Directional.{direct_block}
use Rattle.directional.proofs.Ends.{direct_rewrites}
use Rattle.frames.specs.Digits.{bytes}
use Rattle.frames.specs.Fields.{field}
use Rattle.frames.specs.Frames.{Framed}
use Rattle.frames.specs.Runs.{signed_run_of}
use Rattle.lines.specs.declared.field.Field.{Field}
use Rattle.lines.specs.declared.request.FieldRun.{FieldRun}
use Rattle.lines.specs.declared.request.Load.{Load}
use Rattle.lines.specs.declared.request.Add.{Add}
use Rattle.lines.specs.declared.request.Shift.{Shift}
use Rattle.lines.specs.declared.request.Certify.{Certify}
use Rattle.lines.specs.declared.request.Search.{Search}
use Rattle.lines.specs.declared.request.Clauses.{Clauses as ClauseFields}
use Rattle.lines.specs.declared.request.Explain.{Explain}
use Rattle.lines.specs.declared.request.Order.{Order}
use Rattle.lines.specs.declared.request.Screen.{Screen}
use Rattle.lines.specs.declared.request.Planner.{Planner}
use Rattle.lines.specs.declared.request.Record.{Record}
use Rattle.lines.specs.declared.request.Dearest.{Dearest}
use Rattle.lines.specs.declared.request.Request.{Request}
use Rattle.lines.specs.declared.request.Request.TheVariants.{Load as load_of, Add as add_of, Shift as shift_of, Certify as certify_of, Search as search_of, Clauses as clauses_request, Explain as explain_of, Order as order_of, Screen as screen_of, Planner as planner_of, Record as record_of, Dearest as dearest_of}
use Rattle.lines.specs.Kinds.{needs_study, request_kind}
use Rattle.lines.specs.Layout.{count_width, add_train, add_choice, add_points, certify_full_weight, search_budget, explain_train, explain_choice, explain_limit, order_field, order_train, record_trains, record_choice_field, record_bound, record_cost, plan_choice_field, load_trains, dearest_size_field, number_in, signed_in, further, lift_field, move_field, weight_field}
use Rattle.lines.specs.Verdicts.{field_run}
use Rattle.kinds.specs.Records.{record_verdict}
use Rattle.kinds.proofs.Accepted.{add_fine, shift_fine, certify_fine, search_fine, explain_fine, order_fine}
use Rattle.kinds.proofs.RecordsAccepted.{record_fine, record_trains_held, record_choices_there, record_listed, plan_fine, plan_choices_there, plan_listed}
use Rattle.kinds.proofs.DearestAccepted.{dearest_fine, dearest_sizes_there, sizes_count, sizes_each}
use Rattle.decoding.proofs.LoadRange.{load_in_range}
use Rattle.decoding.proofs.ClausesRange.{clauses_in_limits}
use Rattle.reader.proofs.LineAccepted.{Makes, line_makes, frame_length, add_there, weight_below, explain_there, limit_below}
use Rattle.requests.specs.Wrote.{Asks, Loads, Adds, Shifts, Certifies, LoadsClauses, Explains, Orders, ChoicesThere, Chooses, SizesThere}

module _ {l : List ℕ} {b : List ℤ} {q : Request} {room : ℕ} (a : Asks l b q room) where
  makes : Makes l b q
  makes = (line_makes l b q a.asked).1

  frame : Framed l (bytes l)
  frame = (line_makes l b q a.asked).0

  even : length l ≡ 2 * bytes l
  even = (frame_length frame).even

  -- a kind that needs a study found one
  pub study_ready : needs_study (request_kind q) ≡ true → Study b
  study_ready n = study_of_lem b a.right (rw n at makes.2)

-- ---- 02 add, 06 search

pub add_ready : {l : List ℕ} {b : List ℤ} {q : Add} {room : ℕ} → Asks l b (add_of q) room → Adds b q
add_ready {l} {b} {q} a =
    let m = makes a in
    let e : q ≡ record { train = add_train l; choice = add_choice l; points = the_points (add_points l) } = cc in
    let s = study_ready a refl in
    let f = add_fine l b m.1 in
    rw e (record { study = s; train = (add_there s f).0; choice = (add_there s f).1; points = f.points })

pub search_ready : {l : List ℕ} {b : List ℤ} {q : Search} {room : ℕ} → Asks l b (search_of q) room → Study b × (q.budget ≤ max_budget)
search_ready {l} {b} {q} a =
    let m = makes a in
    let e : q ≡ record { budget = search_budget l } = cc in
    (study_ready a refl, rw e (search_fine l m.1).budget.1)

-- ---- 05 certify

pub certify_ready : {l : List ℕ} {b : List ℤ} {q : Certify} {room : ℕ} → Asks l b (certify_of q) room → Certifies l b q
certify_ready {l} {b} {q} a =
    let m = makes a in
    let e : q ≡ record { full = certify_full_weight l; weights = field_run weight_field.at (weight_count (shape_of b)) } = cc in
    let s = study_ready a refl in
    let f = certify_fine l (weight_count (shape_of b)) m.1 in
    let g : ℕ → ℕ = λ k. number_in l (further weight_field k) in
    rw e
    (record {
      study = s;
      full_weight = f.full_weight.1;
      count = weight_count_most s;
      inside = omega (arith, f.ends, even a);
      weights =
          record {
            count = list_length g (weight_count (shape_of b));
            small = λ p h.
                let k : p < weight_count (shape_of b) = omega (arith, list_length g (weight_count (shape_of b))) in
                rw (list_nth g 0 (weight_count (shape_of b)) p k) (weight_below (frame_length (frame a)) f p k);
          };
    })

-- ---- 03 shift

mag_most : (z : ℤ) → mag z ≤ nat_abs z
mag_most (pos n) = omega arith
mag_most (negsuc n) = omega arith

-- the numbers of a run of lifts or of moves, none of them further from 0 than these may be
small_run : (l : List ℕ) (f : Field) (n : ℕ) → ((k : ℕ) → k < n → nat_abs (signed_in l (further f k)) ≤ max_move) → SmallMoves (signed_run_of l f.at f.width n)
small_run l f n h =
    let z : ℕ → ℤ = λ k. signed_in l (further f k) in
    record {
      small = λ i.
          dite (dec_lt i n) (λ (k : i < n). rw (list_nth z (pos 0) n i k) (omega (arith, mag_most (z i), h i k)))
          (λ (k : i < n → ⊥). rw (list_past z (pos 0) n i (omega (arith, k))) (omega arith));
    }

pub shift_ready : {l : List ℕ} {b : List ℤ} {q : Shift} {room : ℕ} → Asks l b (shift_of q) room → Shifts l b q
shift_ready {l} {b} {q} a =
    let m = makes a in
    let e : q ≡ record { lifts = field_run lift_field.at (trains b); moves = field_run (move_field (trains b)).at (move_count (shape_of b)) } = cc in
    let s = study_ready a refl in
    let f = shift_fine l (trains b) (move_count (shape_of b)) m.1 in
    rw e
    (record {
      study = s;
      frame = frame a;
      lift_count = (refl, (trains_range s).1);
      move_count = (refl, move_count_most s);
      lifts_inside = omega (arith, f.ends, even a);
      moves_inside = omega (arith, f.ends, even a);
      lifts = small_run l lift_field (trains b) f.lift;
      moves = small_run l (move_field (trains b)) (move_count (shape_of b)) f.move;
    })

-- ---- 01 load

pub load_ready : {l : List ℕ} {b : List ℤ} {q : Load} {room : ℕ} → Asks l b (load_of q) room → Loads l q
load_ready {l} a = let m = makes a in record { frame = frame a; fine = m.1; made = m.0; range = load_in_range l m.1 }

-- ---- 09, a study written as clauses

pub clauses_ready : {l : List ℕ} {b : List ℤ} {q : ClauseFields} {room : ℕ} → Asks l b (clauses_request q) room → LoadsClauses l q
clauses_ready {l} a = let m = makes a in record { frame = frame a; fine = m.1; made = m.0; limits = clauses_in_limits l m.1 }

-- ---- 0A, why a choice is out

pub explain_ready : {l : List ℕ} {b : List ℤ} {q : Explain} {room : ℕ} → Asks l b (explain_of q) room → Explains b q
explain_ready {l} {b} {q} a =
    let m = makes a in
    let e : q ≡ record { train = explain_train l; choice = explain_choice l; limit = the_points (explain_limit l) } = cc in
    let s = study_ready a refl in
    let f = explain_fine l b m.1 in
    rw e (record { study = s; train = (explain_there s f).0; choice = (explain_there s f).1; limit = limit_below (frame_length (frame a)) f })

-- ---- 0B, the order of the trains

pub order_ready : {l : List ℕ} {b : List ℤ} {q : Order} {room : ℕ} → Asks l b (order_of q) room → Orders l b q
order_ready {l} {b} {q} a =
    let m = makes a in
    let e : q ≡ record { trains = field_run order_field.at (trains b) } = cc in
    let s = study_ready a refl in
    let f = order_fine l (trains b) m.1 in
    rw e
    (record {
      study = s;
      count = refl;
      inside = omega (arith, f.ends, even a);
      once = once_cong (trains b) _ (order_train l) (λ d h. list_nth (order_train l) 0 (trains b) d h) ∙ f.once;
    })

-- ---- 0C and 0D, a record that is read

record_ready : {l : List ℕ} {b : List ℤ} → Study b → record_verdict l b ≡ Fine → Chooses l b (field_run record_choice_field.at (record_trains l))
record_ready {l} {b} s v =
    let f = record_fine l b v in
    record {
      study = s;
      there = record { count = omega (arith, record_trains_held f, trains_range s); inside = record_choices_there f };
      held = record_listed f;
    }

pub screen_ready : {l : List ℕ} {b : List ℤ} {q : Screen} {room : ℕ} → Asks l b (screen_of q) room → Chooses l b q.choices
screen_ready {l} {b} {q} a =
    let m = makes a in
    let e : q ≡ record { choices = field_run record_choice_field.at (record_trains l) } = cc in
    rw e (record_ready (study_ready a refl) m.1)

pub planner_ready : {l : List ℕ} {b : List ℤ} {q : Planner} {room : ℕ} → Asks l b (planner_of q) room → Chooses l b q.choices
planner_ready {l} {b} {q} a =
    let m = makes a in
    let e : q ≡ record { choices = field_run record_choice_field.at (record_trains l); bound = the_points (record_bound l); cost = the_points (record_cost l) } = cc in
    rw e (record_ready (study_ready a refl) m.1)

-- ---- 0E, a plan whose record is to be written

pub plan_ready : {l : List ℕ} {b : List ℤ} {q : Record} {room : ℕ} → Asks l b (record_of q) room → Chooses l b q.choices
plan_ready {l} {b} {q} a =
    let m = makes a in
    let e : q ≡ record { choices = field_run plan_choice_field.at (trains b) } = cc in
    let s = study_ready a refl in
    let f = plan_fine l b m.1 in
    rw e (record { study = s; there = record { count = (trains_range s).1; inside = plan_choices_there f }; held = plan_listed f })

-- ---- 0F, the dearest study of given sizes

pub dearest_ready : {l : List ℕ} {b : List ℤ} {q : Dearest} {room : ℕ} → Asks l b (dearest_of q) room → SizesThere l q.sizes
dearest_ready {l} {b} {q} a =
    let m = makes a in
    let e : q ≡ record { sizes = field_run dearest_size_field.at (load_trains l) } = cc in
    let f = dearest_fine l m.1 in
    rw e (record { inside = dearest_sizes_there f; right = record { trains = sizes_count f; each = sizes_each f } })

-- they are no more than there may be trains
pub sizes_there : {l : List ℕ} {run : FieldRun} → SizesThere l run → ChoicesThere l run
sizes_there {l} {run} s = record { count = omega (arith, list_length (λ k. field l (run.at + count_width * k) count_width) run.count, s.right.trains); inside = s.inside }

-- ---- a shift, a tightening or a directional round leaves a study, done or declined

pub shifted_study : {b : List ℤ} → Study b → (lifts moves : List ℤ) → Study (shift_block lifts moves b)
shifted_study s lifts moves = judged_study s (shift_rewrites s lifts moves)

pub tightened_study : {b : List ℤ} → Study b → Study (tighten_block b)
tightened_study s = judged_study s (tighten_rewrites s)

pub directed_study : {b : List ℤ} → Study b → Study (direct_block b)
directed_study s = judged_study s (direct_rewrites s)
