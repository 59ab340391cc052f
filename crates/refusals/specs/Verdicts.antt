-- Verdicts: the first reason to decline, in the order of document 01.
use Rattle.std.specs.Prelude.{Bool, true, false, cond, ℕ, zero, suc, Result, Ok, Err}
use Rattle.refusals.specs.declared.Refusal.{Refusal}
use Rattle.refusals.specs.Refusals.{refusal_number}

-- whether what was judged is fine, or the first reason to decline it
abbrev pub Verdict : Type 0
Verdict = Result (Unit {0}) Refusal

-- it is fine
abbrev pub Fine : Verdict
Fine = Ok tt

-- it is declined, for this reason
abbrev pub Declined : Refusal → Verdict
Declined r = Err r

-- the number under which document 01 declines; 0 where it does not
abbrev pub verdict_number : Verdict → ℕ
verdict_number (Ok _) = 0
verdict_number (Err r) = refusal_number r

-- what stands after an operation that would end at `new`: a declined one leaves what was there
abbrev pub settled : {A : Type 0} → Verdict → A → A → A
settled (Ok _) old new = new
settled (Err r) old new = old

-- the first reason to decline
abbrev pub then : Verdict → Verdict → Verdict
then (Ok _) v = v
then (Err r) v = Err r

abbrev pub is_fine : Verdict → Bool
is_fine (Ok _) = true
is_fine (Err r) = false

-- the first reason to decline among n verdicts, in their order
unfoldable pub first_of : ℕ → (ℕ → Verdict) → Verdict
first_of zero f = Fine
first_of (suc n) f = then (first_of n f) (f n)

abbrev pub unless : Bool → Refusal → Verdict
unless t r = cond t Fine (Declined r)
