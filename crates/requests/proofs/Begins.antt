-- Every reply to a line is empty, 17, or whole bytes that begin with FF or with the byte of a kind: a saved line and that of a dearest study begin with 01, and every other with what `replies` writes.
use Rattle.std.specs.Prelude.{Result, Ok, Err}
use Rattle.certificates.specs.declared.certify.Ceiling.{Ceiling}
use mathlib.Core.Path.{◌≡◌, refl}
use mathlib.Core.Bool.{true}
use mathlib.Core.List.{List}
use mathlib.Core.Logic.{inl}
use Prim.Native.Nat.{ℕ, ◌%◌, ◌≤◌}
use native.Mathlib.Omega.{arith}
use lib.IntN.{ℤ}
use lib.ListN.{length}
use Rattle.theory.specs.Lists.{nth}
use Rattle.refusals.specs.declared.Refusal.{Refusal}
use Rattle.refusals.specs.declared.Refusal.TheVariants.{Figures, Tries}
use Rattle.refusals.specs.Verdicts.{Verdict}
use Rattle.tables.specs.Block.{trains}
use Rattle.tables.specs.Numbers.{Numbers}
use Rattle.tables.specs.WellFormed.{well_formed}
use Rattle.tables.specs.Plans.{loaded_total}
use Rattle.bounds.specs.Bounds.{bound_of}
use Rattle.dearest.specs.Dearest.{SizesRight, dearest}
use Rattle.dearest.proofs.Loaded.{dearest_in_range}
use Rattle.operations.specs.Add.{add_outcome}
use Rattle.operations.specs.Load.{loaded_block}
use Rattle.operations.specs.Saved.{saved_numbers}
use Rattle.clauses.specs.Outcomes.{clauses_outcome}
use Rattle.shift.specs.Shift.{shift_outcome}
use Rattle.tighten.specs.Tighten.{tighten_outcome}
use Rattle.directional.specs.Directional.{direct_outcome}
use Rattle.certificates.specs.Certify.{weights_of, certificate}
use Rattle.frames.specs.Runs.{run_of, signed_run_of}
use Rattle.lines.specs.declared.kind.Kind.{Kind}
use Rattle.lines.specs.declared.kind.Kind.TheVariants as kind
use Rattle.lines.specs.declared.request.Request.{Request}
use Rattle.lines.specs.declared.request.Request.TheVariants.{Load, Add, Shift, Tighten, Certify, Search, Save, Round, Clauses, Explain, Order, Screen, Planner, Record, Dearest}
use Rattle.lines.specs.Kinds.{kind_number}
use Rattle.lines.specs.Layout.{count_width, move_width, weight_width}
use Rattle.lines.specs.Text.{load_digits}
use Rattle.decoding.specs.Numbers.{numbers_of}
use Rattle.decoding.specs.Clauses.{clauses_of}
use Rattle.decoding.proofs.Size.{load_length}
use Rattle.reasons.specs.Reasons.{reason_at}
use Rattle.search.specs.Answer.{search_answer}
use Rattle.replies.specs.Replies.{longest_fixed}
use Rattle.replies.proofs.Begins.{IsReply, begins, declined_begins, bound_begins, certify_begins, search_begins, reason_begins, order_begins, screen_begins, record_begins}
use Rattle.saving.proofs.Together.{save_length}
use Rattle.requests.specs.Answer.{operated, certified, recorded, dearest_given, choices_in, requested, line_answer}
use Rattle.requests.specs.Wrote.{Asks}
use Rattle.requests.proofs.Ready.{study_ready, dearest_ready}
use Rattle.requests.proofs.Records.{recorded_cases}
use Rattle.requests.proofs.Dearest.{dearest_cases}
use Rattle.requests.proofs.LineCases.{line_cases}

-- a load line
text_begins : (x : Numbers) → length (load_digits x) % 2 ≡ 0 → IsReply (load_digits x)
unfolding load_digits
text_begins x even = begins (kind_number kind.Load) _ refl (inl (omega arith)) even

operated_begins : (kind : Kind) (v : Verdict) (old new : List ℤ) → IsReply (operated kind v old new).reply
operated_begins kind (Ok _) old new = bound_begins kind new
operated_begins kind (Err r) old new = declined_begins r

certified_begins : (full_weight : ℕ) (c : Result Ceiling Refusal) (b : List ℤ) → IsReply (certified full_weight c b).reply
certified_begins full_weight (Err r) b = declined_begins r
certified_begins full_weight (Ok c) b = certify_begins full_weight c

recorded_begins : (kind : Kind) (choices : List ℕ) (bound cost : ℕ) (b : List ℤ) → IsReply (recorded kind choices bound cost b).reply
recorded_begins kind choices bound cost b = recorded_cases kind choices bound cost b (λ a. IsReply a.reply) (λ e. record_begins kind choices bound cost) (λ e. declined_begins Figures)

dearest_begins : (sizes : List ℕ) (b : List ℤ) → SizesRight sizes → IsReply (dearest_given sizes b).reply
dearest_begins sizes b r = dearest_cases sizes b (λ a. IsReply a.reply) (λ e. text_begins (dearest sizes) (omega (arith, load_length (dearest_in_range r)))) (λ e. declined_begins Tries)

module _ (l : List ℕ) (b : List ℤ) (room : ℕ) where
  requested_begins : (q : Request) → Asks l b q room → IsReply (requested q l b).reply
  unfolding requested
  requested_begins (Load q) a = bound_begins kind.Load (loaded_block (numbers_of l))
  requested_begins (Add q) a = operated_begins kind.Add (add_outcome q.train q.choice q.points.0 b) b _
  requested_begins (Shift q) a =
      let lifts = signed_run_of l q.lifts.at move_width q.lifts.count in
      let moves = signed_run_of l q.moves.at move_width q.moves.count in
      operated_begins kind.Shift (shift_outcome lifts moves b) b _
  requested_begins Tighten a = operated_begins kind.Tighten (tighten_outcome b) b _
  requested_begins (Certify q) a = certified_begins q.full (certificate b (weights_of b q.full (run_of l q.weights.at weight_width q.weights.count))) b
  requested_begins (Search q) a = search_begins (trains b) (search_answer b q.budget)
  requested_begins Save a = text_begins (saved_numbers b) (omega (arith, save_length (study_ready a refl)))
  requested_begins Round a = operated_begins kind.Round (direct_outcome b) b _
  requested_begins (Clauses q) a = operated_begins kind.Clauses (clauses_outcome q.trains q.scale (clauses_of l)) _ _
  requested_begins (Explain q) a = reason_begins (reason_at b q.train q.choice q.limit.0)
  requested_begins (Order q) a = order_begins (run_of l q.trains.at count_width q.trains.count)
  requested_begins (Screen q) a = screen_begins (choices_in l q.choices)
  requested_begins (Planner q) a = recorded_begins kind.Planner (choices_in l q.choices) q.bound.0 q.cost.0 b
  requested_begins (Record q) a = let choices = choices_in l q.choices in recorded_begins kind.Record choices (bound_of b) (loaded_total b (nth choices)) b
  requested_begins (Dearest q) a = dearest_begins (choices_in l q.sizes) b (dearest_ready a).right

  -- every reply to a line, where there is room for every fixed reply
  pub line_begins : longest_fixed ≤ room → well_formed b ≡ true → IsReply (line_answer l b room).reply
  line_begins h right = line_cases l b room h right (λ a. IsReply a.reply) (λ r e. declined_begins r) (λ q a k. requested_begins q a) (λ q a k. inl refl)
