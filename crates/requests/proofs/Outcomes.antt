-- Which block a request leaves: an operation by its outcome, and a kind that leaves the block the one that was there.
use Rattle.std.specs.Prelude.{Result, Ok, Err}
use Rattle.refusals.specs.declared.Refusal.{Refusal}
use Rattle.certificates.specs.declared.certify.Ceiling.{Ceiling}
use Rattle.certificates.specs.Certify.{weights_of, certificate}
use Rattle.frames.specs.Runs.{run_of}
use mathlib.Core.Path.{◌≡◌, refl}
use mathlib.Core.Bool.{true}
use mathlib.Core.List.{List}
use Prim.Native.Nat.{ℕ}
use lib.IntN.{ℤ}
use Rattle.theory.specs.Lists.{nth}
use Rattle.theory.proofs.Range.{not_both}
use Rattle.refusals.specs.Verdicts.{Verdict, Fine, settled}
use Rattle.tables.specs.Plans.{loaded_total}
use Rattle.bounds.specs.Bounds.{bound_of}
use Rattle.lines.specs.declared.kind.Kind.{Kind}
use Rattle.lines.specs.declared.kind.Kind.TheVariants as kind
use Rattle.lines.specs.declared.request.Request.{Request}
use Rattle.lines.specs.declared.request.Request.TheVariants.{Certify, Search, Save, Explain, Screen, Planner, Record, Dearest}
use Rattle.lines.specs.Kinds.{request_kind}
use Rattle.lines.specs.Layout.{weight_width}
use Rattle.replies.specs.Shown.{accepted}
use Rattle.replies.proofs.Accepted.{refusal_refused}
use Rattle.requests.specs.Answer.{operated, certified, recorded, choices_in, dearest_given, requested, leaves_block}
use Rattle.requests.proofs.Records.{recorded_cases}
use Rattle.requests.proofs.Dearest.{dearest_cases}

-- the block that an operation leaves
pub operated_leaves : (kind : Kind) (o : Verdict) (old new : List ℤ) → (operated kind o old new).block ≡ settled o old new
operated_leaves kind (Ok _) old new = refl
operated_leaves kind (Err r) old new = refl

-- an operation whose reply is accepted is done
pub operated_done : (kind : Kind) (o : Verdict) (old new : List ℤ) → accepted (operated kind o old new).reply ≡ true → o ≡ Fine
operated_done kind (Ok _) old new y = refl
operated_done kind (Err r) old new y = absurd (not_both y (refusal_refused r))

-- a certificate leaves the block, declined or not
certified_leaves : (full_weight : ℕ) (c : Result Ceiling Refusal) (b : List ℤ) → (certified full_weight c b).block ≡ b
certified_leaves full_weight (Err r) b = refl
certified_leaves full_weight (Ok c) b = refl

-- and so does a record
recorded_leaves : (kind : Kind) (choices : List ℕ) (bound cost : ℕ) (b : List ℤ) → (recorded kind choices bound cost b).block ≡ b
recorded_leaves kind choices bound cost b = recorded_cases kind choices bound cost b (λ a. a.block ≡ b) (λ e. refl) (λ e. refl)

-- and so does the dearest study
dearest_leaves : (sizes : List ℕ) (b : List ℤ) → (dearest_given sizes b).block ≡ b
dearest_leaves sizes b = dearest_cases sizes b (λ a. a.block ≡ b) (λ e. refl) (λ e. refl)

-- and so does every request of a kind that leaves the block
pub requested_leaves : (q : Request) (l : List ℕ) (b : List ℤ) → leaves_block (request_kind q) ≡ true → (requested q l b).block ≡ b
unfolding requested
requested_leaves (Certify q) l b e = certified_leaves q.full (certificate b (weights_of b q.full (run_of l q.weights.at weight_width q.weights.count))) b
requested_leaves (Search q) l b e = refl
requested_leaves Save l b e = refl
requested_leaves (Explain q) l b e = refl
requested_leaves (Screen q) l b e = refl
requested_leaves (Planner q) l b e = recorded_leaves kind.Planner (choices_in l q.choices) q.bound.0 q.cost.0 b
requested_leaves (Record q) l b e = let choices = choices_in l q.choices in recorded_leaves kind.Record choices (bound_of b) (loaded_total b (nth choices)) b
requested_leaves (Dearest q) l b e = dearest_leaves (choices_in l q.sizes) b
requested_leaves q l b e = absurd (not_both e refl)
