-- Document 01, 'What is declined': the first reason to decline a line, by its fields: 'Fields from left to right, each judged as soon as it is read', bytes left over last.
use Rattle.std.specs.Prelude.{Bool, true, false, ◌&&◌, List, ℕ, leb, eqb, nat_abs}
use Rattle.refusals.specs.declared.Refusal.TheVariants.{Fields}
use Rattle.refusals.specs.Verdicts.{Verdict, then, first_of, unless}
use Rattle.tables.specs.Numbers.{is_cost}
use Rattle.frames.specs.Digits.{bytes}
use Rattle.frames.specs.Fields.{signed}
use Rattle.lines.specs.declared.field.Rule.{Rule}
use Rattle.lines.specs.declared.field.Rule.TheVariants.{Any, Between, Around, Priced}
use Rattle.lines.specs.declared.field.Field.{Field}
use Rattle.lines.specs.declared.request.FieldRun.{FieldRun}
use Rattle.lines.specs.Layout.{number_in, end_of, further}

-- a field's number is within its rule
abbrev pub obeys : Rule → ℕ → ℕ → Bool
obeys Any width v = true
obeys (Between low high) width v = leb low v && leb v high
obeys (Around limit) width v = leb (nat_abs (signed width v)) limit
obeys Priced width v = is_cost v

-- a rule that takes any number
abbrev pub takes_any : Rule → Bool
takes_any Any = true
takes_any (Between low high) = false
takes_any (Around limit) = false
takes_any Priced = false

-- one field: 5 where it is not wholly there, else judged by its rule
unfoldable pub field_verdict : List ℕ → Field → Verdict
field_verdict l f = then (unless (leb (end_of f) (bytes l)) Fields) (unless (obeys f.rule f.width (number_in l f)) f.refusal)

-- a run of `count` fields, one after the other, of which this is the first
abbrev pub run_verdict : List ℕ → Field → ℕ → Verdict
run_verdict l f count = first_of count (λ k. field_verdict l (further f k))

-- 5: bytes left over, where the fields of a line of so many bytes end at byte `at`
abbrev pub end_verdict : ℕ → ℕ → Verdict
end_verdict count at = unless (eqb at count) Fields

-- the last field, and no bytes left over
unfoldable pub last_verdict : List ℕ → Field → Verdict
last_verdict l f = then (field_verdict l f) (end_verdict (bytes l) (end_of f))

-- two runs of fields, and no bytes left over
unfoldable pub runs_verdict : List ℕ → Field → ℕ → Field → ℕ → Verdict
runs_verdict l f count g more = then (run_verdict l f count) (then (run_verdict l g more) (end_verdict (bytes l) (further g more).at))

-- `count` fields from byte `at` on: a long field of a request
abbrev pub field_run : ℕ → ℕ → FieldRun
field_run at count = record { at = at; count = count }
