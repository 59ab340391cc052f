-- No reply to a request is empty or longer than the longest reply, and none but a saved line, a plan record or the line of a dearest study is longer than the longest of the fixed replies.
use Rattle.std.specs.Prelude.{Result, Ok, Err}
use Rattle.refusals.specs.declared.Refusal.{Refusal}
use Rattle.refusals.specs.declared.Refusal.TheVariants.{Figures, Tries}
use Rattle.certificates.specs.declared.certify.Ceiling.{Ceiling}
use mathlib.Core.Path.{◌≡◌, refl}
use mathlib.Core.Bool.{true}
use Prim.Native.Nat.{ℕ, ◌+◌, ◌*◌, ◌<◌, ◌≤◌}
use mathlib.Core.List.{List}
use native.Mathlib.Omega.{arith}
use lib.IntN.{ℤ}
use lib.ListN.{length}
use Rattle.theory.specs.Lists.{nth}
use Rattle.theory.proofs.Range.{not_both}
use Rattle.theory.proofs.Lists.{list_length}
use Rattle.refusals.specs.Verdicts.{Verdict}
use Rattle.tables.specs.Block.{max_trains, trains}
use Rattle.tables.specs.WellFormed.{Study}
use Rattle.tables.specs.Plans.{loaded_total}
use Rattle.tables.proofs.Study.{trains_range}
use Rattle.bounds.specs.Bounds.{bound_of}
use Rattle.dearest.specs.Dearest.{SizesRight}
use Rattle.dearest.proofs.Loaded.{dearest_in_range}
use Rattle.operations.specs.Add.{add_outcome}
use Rattle.operations.specs.Load.{loaded_block}
use Rattle.clauses.specs.Outcomes.{clauses_outcome}
use Rattle.shift.specs.Shift.{shift_outcome}
use Rattle.tighten.specs.Tighten.{tighten_outcome}
use Rattle.directional.specs.Directional.{direct_outcome}
use Rattle.certificates.specs.Certify.{weights_of, certificate}
use Rattle.frames.specs.Fields.{field}
use Rattle.frames.specs.Runs.{run_of, signed_run_of}
use Rattle.lines.specs.declared.kind.Kind.{Kind}
use Rattle.lines.specs.declared.kind.Kind.TheVariants as kind
use Rattle.lines.specs.declared.request.FieldRun.{FieldRun}
use Rattle.lines.specs.declared.request.Request.{Request}
use Rattle.lines.specs.declared.request.Request.TheVariants.{Load, Add, Shift, Tighten, Certify, Search, Save, Round, Clauses, Explain, Order, Screen, Planner, Record, Dearest}
use Rattle.lines.specs.Kinds.{request_kind}
use Rattle.lines.specs.Layout.{count_width, move_width, weight_width}
use Rattle.decoding.specs.Numbers.{numbers_of}
use Rattle.decoding.specs.Clauses.{clauses_of}
use Rattle.decoding.proofs.Size.{load_length, load_longest}
use Rattle.reasons.specs.Reasons.{reason_at}
use Rattle.search.specs.Answer.{search_answer}
use Rattle.replies.specs.Replies.{longest_fixed, longest_reply}
use Rattle.replies.proofs.Lengths.{bound_length, certify_length, search_length, reason_length, order_length, screen_length, record_reply_length, refusal_length}
use Rattle.saving.proofs.Together.{save_length, save_most}
use Rattle.requests.specs.Answer.{operated, certified, recorded, dearest_given, choices_in, requested, fixed_reply}
use Rattle.requests.specs.Wrote.{Asks, Chooses}
use Rattle.requests.proofs.Ready.{study_ready, order_ready, screen_ready, planner_ready, plan_ready, dearest_ready}
use Rattle.requests.proofs.Records.{recorded_cases}
use Rattle.requests.proofs.Dearest.{dearest_cases}

-- a reply of so many characters at most, but not empty
abbrev pub UpTo : ℕ → List ℕ → Type 0
UpTo most reply = (0 < length reply) × (length reply ≤ most)

operated_short : (kind : Kind) (v : Verdict) (old new : List ℤ) → UpTo longest_fixed (operated kind v old new).reply
operated_short kind (Ok _) old new = omega (arith, bound_length kind new)
operated_short kind (Err r) old new = omega (arith, refusal_length r)

certified_short : (full_weight : ℕ) (c : Result Ceiling Refusal) (b : List ℤ) → UpTo longest_fixed (certified full_weight c b).reply
certified_short full_weight (Err r) b = omega (arith, refusal_length r)
certified_short full_weight (Ok c) b = omega (arith, certify_length full_weight c)

-- no more choices than there may be trains
choices_most : {l : List ℕ} {b : List ℤ} {run : FieldRun} → Chooses l b run → length (choices_in l run) ≤ max_trains
choices_most {l} {b} {run} c = omega (arith, list_length (λ k. field l (run.at + count_width * k) count_width) run.count, c.there.count)

-- a fixed reply
pub requested_short : (l : List ℕ) (b : List ℤ) (room : ℕ) (q : Request) → fixed_reply (request_kind q) ≡ true → Asks l b q room → UpTo longest_fixed (requested q l b).reply
unfolding requested
requested_short l b room (Load q) e a = omega (arith, bound_length kind.Load (loaded_block (numbers_of l)))
requested_short l b room (Add q) e a = operated_short kind.Add (add_outcome q.train q.choice q.points.0 b) b _
requested_short l b room (Shift q) e a =
    let lifts = signed_run_of l q.lifts.at move_width q.lifts.count in
    let moves = signed_run_of l q.moves.at move_width q.moves.count in
    operated_short kind.Shift (shift_outcome lifts moves b) b _
requested_short l b room Tighten e a = operated_short kind.Tighten (tighten_outcome b) b _
requested_short l b room (Certify q) e a = certified_short q.full (certificate b (weights_of b q.full (run_of l q.weights.at weight_width q.weights.count))) b
requested_short l b room (Search q) e a = omega (arith, search_length (trains b) (search_answer b q.budget), trains_range (study_ready a refl))
requested_short l b room Save e a = absurd (not_both e refl)
requested_short l b room Round e a = operated_short kind.Round (direct_outcome b) b _
requested_short l b room (Clauses q) e a = operated_short kind.Clauses (clauses_outcome q.trains q.scale (clauses_of l)) _ _
requested_short l b room (Explain q) e a = omega (arith, reason_length (reason_at b q.train q.choice q.limit.0))
requested_short l b room (Order q) e a =
    let r = order_ready a in
    omega (arith, order_length (run_of l q.trains.at count_width q.trains.count), list_length (λ k. field l (q.trains.at + count_width * k) count_width) q.trains.count, r.count, trains_range r.study)
requested_short l b room (Screen q) e a = omega (arith, screen_length (choices_in l q.choices), choices_most (screen_ready a))
requested_short l b room (Planner q) e a = absurd (not_both e refl)
requested_short l b room (Record q) e a = absurd (not_both e refl)
requested_short l b room (Dearest q) e a = absurd (not_both e refl)

-- a record of as many trains as there may be has 76 characters
recorded_most : (kind : Kind) (choices : List ℕ) (bound cost : ℕ) (b : List ℤ) → length choices ≤ max_trains → UpTo longest_reply (recorded kind choices bound cost b).reply
recorded_most kind choices bound cost b h =
    recorded_cases kind choices bound cost b (λ a. UpTo longest_reply a.reply) (λ e. omega (arith, record_reply_length kind choices bound cost)) (λ e. omega (arith, refusal_length Figures))

saved_most : (l : List ℕ) (b : List ℤ) → Study b → UpTo longest_reply (requested Save l b).reply
unfolding requested
saved_most l b s = (omega (arith, save_length s), save_most s)

-- the line of a dearest study is no longer than a load line may be
dearest_most : (sizes : List ℕ) (b : List ℤ) → SizesRight sizes → UpTo longest_reply (dearest_given sizes b).reply
dearest_most sizes b r =
    let range = dearest_in_range r in
    dearest_cases sizes b (λ a. UpTo longest_reply a.reply) (λ e. (omega (arith, load_length range), omega (arith, load_longest range))) (λ e. omega (arith, refusal_length Tries))

-- every reply
pub requested_most : (l : List ℕ) (b : List ℤ) (room : ℕ) (q : Request) → Asks l b q room → UpTo longest_reply (requested q l b).reply
unfolding requested
requested_most l b room Save a = saved_most l b (study_ready a refl)
requested_most l b room (Planner q) a = recorded_most kind.Planner (choices_in l q.choices) q.bound.0 q.cost.0 b (choices_most (planner_ready a))
requested_most l b room (Record q) a =
    let choices = choices_in l q.choices in recorded_most kind.Record choices (bound_of b) (loaded_total b (nth choices)) b (choices_most (plan_ready a))
requested_most l b room (Dearest q) a = dearest_most (choices_in l q.sizes) b (dearest_ready a).right
requested_most l b room q a = omega (arith, requested_short l b room q refl a)
