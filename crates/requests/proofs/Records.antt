-- A record is answered where its figures are right, and declined with 23 where they are not: 'cost isn't the plan's total in H, bound above it, or a forbidden entry'.
use mathlib.Core.Path.{◌≡◌, refl}
use mathlib.Core.Bool.{Bool, true, false, cond}
use mathlib.Core.List.{List}
use Prim.Native.Nat.{ℕ}
use lib.IntN.{ℤ}
use Rattle.theory.specs.Lists.{nth}
use Rattle.theory.proofs.Range.{not_both}
use Rattle.refusals.specs.declared.Refusal.TheVariants.{Figures}
use Rattle.records.specs.Records.{record_right}
use Rattle.lines.specs.declared.kind.Kind.{Kind}
use Rattle.replies.specs.Replies.{record_reply}
use Rattle.replies.specs.Shown.{accepted}
use Rattle.replies.proofs.Accepted.{refusal_refused}
use Rattle.requests.specs.Answer.{Answer, answered, declined, recorded}

module _ (kind : Kind) (choices : List ℕ) (bound cost : ℕ) (b : List ℤ) where
  -- whatever holds of the record and of the refusal holds of the answer
  pub recorded_cases : (P : Answer → Type 0)
      → (record_right b (nth choices) bound cost ≡ true → P (answered b (record_reply kind choices bound cost)))
      → (record_right b (nth choices) bound cost ≡ false → P (declined b Figures))
      → P (recorded kind choices bound cost b)
  recorded_cases P right wrong = go (record_right b (nth choices) bound cost) refl
    where
      go : (t : Bool) → record_right b (nth choices) bound cost ≡ t → P (cond t (answered b (record_reply kind choices bound cost)) (declined b Figures))
      go true e = right e
      go false e = wrong e

  pub recorded_right : record_right b (nth choices) bound cost ≡ true → recorded kind choices bound cost b ≡ answered b (record_reply kind choices bound cost)
  recorded_right e = rw e

  -- one that is accepted is right
  pub accepted_right : accepted (recorded kind choices bound cost b).reply ≡ true → record_right b (nth choices) bound cost ≡ true
  accepted_right =
      recorded_cases (λ a. accepted a.reply ≡ true → record_right b (nth choices) bound cost ≡ true) (λ e y. e) (λ e y. absurd (not_both y (refusal_refused Figures)))
