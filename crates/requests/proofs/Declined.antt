-- A line is accepted, or it is declined: then the block is as it was, and the reply is a refusal's two bytes, or empty for 17.
use Rattle.std.specs.Prelude.{Result, Ok, Err}
use Rattle.certificates.specs.declared.certify.Ceiling.{Ceiling}
use mathlib.Core.Path.{◌≡◌, refl}
use mathlib.Core.Bool.{true, false}
use mathlib.Core.List.{List, []}
use mathlib.Core.Logic.{◌⊎◌, inl, inr}
use Prim.Native.Nat.{ℕ, ◌≤◌}
use native.Mathlib.Omega.{arith}
use lib.IntN.{ℤ}
use Rattle.theory.specs.Lists.{nth}
use Rattle.theory.proofs.Range.{not_both}
use Rattle.refusals.specs.declared.Refusal.{Refusal}
use Rattle.refusals.specs.declared.Refusal.TheVariants.{Figures, Tries}
use Rattle.refusals.specs.Verdicts.{Verdict}
use Rattle.tables.specs.Block.{trains}
use Rattle.tables.specs.Numbers.{Numbers}
use Rattle.tables.specs.WellFormed.{well_formed}
use Rattle.tables.specs.Plans.{loaded_total}
use Rattle.bounds.specs.Bounds.{bound_of}
use Rattle.dearest.specs.Dearest.{dearest}
use Rattle.operations.specs.Add.{added, add_outcome}
use Rattle.operations.specs.Load.{loaded_block}
use Rattle.operations.specs.Saved.{saved_numbers}
use Rattle.clauses.specs.Outcomes.{clauses_outcome}
use Rattle.rewriting.specs.Judged.{kept}
use Rattle.shift.specs.Shift.{shifted, shift_outcome}
use Rattle.tighten.specs.Tighten.{tightened, tighten_outcome}
use Rattle.directional.specs.Directional.{directed, direct_outcome}
use Rattle.certificates.specs.Certify.{weights_of, certificate}
use Rattle.frames.specs.Runs.{run_of, signed_run_of}
use Rattle.lines.specs.declared.kind.Kind.{Kind}
use Rattle.lines.specs.declared.kind.Kind.TheVariants as kind
use Rattle.lines.specs.declared.request.Request.{Request}
use Rattle.lines.specs.declared.request.Request.TheVariants.{Load, Add, Shift, Tighten, Certify, Search, Save, Round, Clauses, Explain, Order, Screen, Planner, Record, Dearest}
use Rattle.lines.specs.Layout.{count_width, move_width, weight_width}
use Rattle.lines.specs.Text.{load_digits}
use Rattle.decoding.specs.Numbers.{numbers_of}
use Rattle.decoding.specs.Clauses.{clauses_of, clause_numbers_of}
use Rattle.decoding.proofs.Written.{load_kind}
use Rattle.reasons.specs.Reasons.{reason_at}
use Rattle.search.specs.Answer.{search_answer}
use Rattle.replies.specs.Replies.{longest_fixed}
use Rattle.replies.specs.Shown.{accepted}
use Rattle.replies.proofs.Accepted.{accepted_as, bound_accepted, certify_accepted, search_accepted, reason_accepted, order_accepted, screen_accepted, record_accepted}
use Rattle.requests.specs.Answer.{Answer, answered, declined, operated, certified, recorded, choices_in, dearest_given, requested, line_answer}
use Rattle.requests.specs.Declined.{Declines}
use Rattle.requests.proofs.Records.{recorded_cases}
use Rattle.requests.proofs.Dearest.{dearest_cases}
use Rattle.requests.proofs.LineCases.{line_cases}

-- an accepted answer, or a declined one
abbrev pub Either : List ℤ → Answer → Type 0
Either b a = (accepted a.reply ≡ true) ⊎ Declines b a

pub either_declined : (b : List ℤ) (r : Refusal) → Either b (declined b r)
either_declined b r = inr (record { block = refl; reply = inr (record { refusal = r; is = refl }) })

pub either_empty : (b : List ℤ) → Either b (answered b [])
either_empty b = inr (record { block = refl; reply = inl refl })

-- what is not accepted is declined
pub declines : {b : List ℤ} (a : Answer) → Either b a → accepted a.reply ≡ false → Declines b a
declines a (inl y) e = absurd (not_both y e)
declines a (inr d) e = d

-- ---- by the request

text_accepted : (x : Numbers) → accepted (load_digits x) ≡ true
text_accepted x = accepted_as (load_digits x) (omega (arith, load_kind x))

either_operated : (kind : Kind) (v : Verdict) (old new : List ℤ) → Either old (operated kind v old new)
either_operated kind (Ok _) old new = inl (bound_accepted kind new)
either_operated kind (Err r) old new = either_declined old r

either_certified : (full_weight : ℕ) (c : Result Ceiling Refusal) (b : List ℤ) → Either b (certified full_weight c b)
either_certified full_weight (Err r) b = either_declined b r
either_certified full_weight (Ok c) b = inl (certify_accepted full_weight c)

either_recorded : (kind : Kind) (choices : List ℕ) (bound cost : ℕ) (b : List ℤ) → Either b (recorded kind choices bound cost b)
either_recorded kind choices bound cost b =
    recorded_cases kind choices bound cost b (Either b) (λ e. inl (record_accepted kind choices bound cost)) (λ e. either_declined b Figures)

either_dearest : (sizes : List ℕ) (b : List ℤ) → Either b (dearest_given sizes b)
either_dearest sizes b = dearest_cases sizes b (Either b) (λ e. inl (text_accepted (dearest sizes))) (λ e. either_declined b Tries)

module _ (l : List ℕ) (b : List ℤ) where
  pub either_requested : (q : Request) → Either b (requested q l b)
  unfolding requested
  either_requested (Load q) = inl (bound_accepted kind.Load (loaded_block (numbers_of l)))
  either_requested (Add q) = either_operated kind.Add (add_outcome q.train q.choice q.points.0 b) b (added q.train q.choice q.points.0 b)
  either_requested (Shift q) =
      let lifts = signed_run_of l q.lifts.at move_width q.lifts.count in
      let moves = signed_run_of l q.moves.at move_width q.moves.count in
      either_operated kind.Shift (shift_outcome lifts moves b) b (kept b (shifted lifts moves b))
  either_requested Tighten = either_operated kind.Tighten (tighten_outcome b) b (kept b (tightened b))
  either_requested (Certify q) = either_certified q.full (certificate b (weights_of b q.full (run_of l q.weights.at weight_width q.weights.count))) b
  either_requested (Search q) = inl (search_accepted (trains b) (search_answer b q.budget))
  either_requested Save = inl (text_accepted (saved_numbers b))
  either_requested Round = either_operated kind.Round (direct_outcome b) b (kept b (directed b))
  either_requested (Clauses q) = either_operated kind.Clauses (clauses_outcome q.trains q.scale (clauses_of l)) b (loaded_block (clause_numbers_of l))
  either_requested (Explain q) = inl (reason_accepted (reason_at b q.train q.choice q.limit.0))
  either_requested (Order q) = inl (order_accepted (run_of l q.trains.at count_width q.trains.count))
  either_requested (Screen q) = inl (screen_accepted (choices_in l q.choices))
  either_requested (Planner q) = either_recorded kind.Planner (choices_in l q.choices) q.bound.0 q.cost.0 b
  either_requested (Record q) = let choices = choices_in l q.choices in either_recorded kind.Record choices (bound_of b) (loaded_total b (nth choices)) b
  either_requested (Dearest q) = either_dearest (choices_in l q.sizes) b

  -- a line, where there is room for every fixed reply
  pub either_line : (room : ℕ) → longest_fixed ≤ room → well_formed b ≡ true → Either b (line_answer l b room)
  either_line room h right = line_cases l b room h right (λ a. Either b a) (λ r e. either_declined b r) (λ q a f. either_requested q) (λ q a f. either_empty b)

  -- what is not accepted leaves the block as it was, and writes nothing but its two bytes
  pub declined_line_leaves : (room : ℕ) → longest_fixed ≤ room → well_formed b ≡ true → accepted (line_answer l b room).reply ≡ false → Declines b (line_answer l b room)
  declined_line_leaves room h right = declines (line_answer l b room) (either_line room h right)
