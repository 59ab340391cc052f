-- What a line of kind 08 leaves: where it is accepted, the block that the round of a study leaves, of which `directional` has the laws; where it is declined, the block as it was.
use Rattle.std.specs.Prelude.{Ok}
use mathlib.Core.Path.{◌≡◌, refl, ◌∙◌}
use mathlib.Core.Bool.{Bool, true, false}
use mathlib.Core.List.{List}
use Prim.Native.Nat.{ℕ, ◌≤◌}
use native.Mathlib.Omega.{arith}
use lib.IntN.{ℤ}
use lib.ListN.{length}
use Rattle.refusals.specs.Verdicts.{Fine}
use Rattle.tables.specs.Block.{constant}
use Rattle.tables.specs.WellFormed.{Study}
use Rattle.rewriting.specs.Judged.{kept}
use Rattle.directional.specs.Directional.{directed, direct_outcome, direct_block}
use Rattle.directional.proofs.Ends.{direct_raises_constant, direct_block_least}
use Rattle.lines.specs.declared.kind.Kind.TheVariants as kind
use Rattle.lines.specs.declared.request.Request.TheVariants.{Round}
use Rattle.lines.specs.Kinds.{new_kind}
use Rattle.lines.specs.Layout.{kind_of}
use Rattle.replies.specs.Shown.{accepted}
use Rattle.requests.specs.Answer.{operated, requested}
use Rattle.requests.specs.Wrote.{Asks}
use Rattle.requests.proofs.Ready.{study_ready}
use Rattle.requests.proofs.Outcomes.{operated_leaves, operated_done}
use Rattle.requests.proofs.LineCases.{fixed_line}
use Rattle.service.specs.Answer.{answer}
use Rattle.claims.specs.Rounds.{RoundRaises, RoundSettles}
use Rattle.claims.proofs.Asking.{asks_answered, accepted_call, accepted_asks}
use Rattle.claims.proofs.Declined.{declined_leaves}

module _ (l : List ℕ) (b : List ℤ) (buffer : List ℕ) (known : new_kind (kind_of l) ≡ Ok kind.Round) (y : accepted (answer l b buffer).reply ≡ true) where
  asked : Asks l b Round (length buffer)
  asked = accepted_asks l b buffer kind.Round known y

  round_study : Study b
  round_study = study_ready asked refl

  answer_is : answer l b buffer ≡ operated kind.Round (direct_outcome b) b (kept b (directed b))
  unfolding requested
  answer_is = asks_answered l b buffer (accepted_call l b buffer y).0 asked ∙ fixed_line l b (length buffer) asked.fits asked.right Round refl asked.asked

  round_leaves : (answer l b buffer).block ≡ direct_block b
  round_leaves = rw answer_is (operated_leaves kind.Round (direct_outcome b) b (kept b (directed b)))

  round_done : direct_outcome b ≡ Fine
  round_done = operated_done kind.Round (direct_outcome b) b (kept b (directed b)) (rw answer_is at y)

pub round_settles : RoundSettles
round_settles l b buffer known y o one = rw (round_leaves l b buffer known y) (direct_block_least (round_study l b buffer known y) o one (round_done l b buffer known y))

pub round_raises : RoundRaises
round_raises l b buffer known = go (accepted (answer l b buffer).reply) refl
  where
    go : (t : Bool) → accepted (answer l b buffer).reply ≡ t → constant b ≤ constant (answer l b buffer).block
    go true y = rw (round_leaves l b buffer known y) (direct_raises_constant (round_study l b buffer known y))
    go false n = rw (declined_leaves l b buffer n).block (omega arith)
