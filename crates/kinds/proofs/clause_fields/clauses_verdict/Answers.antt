-- n and s are judged as in a load, then the count, and only then the clauses, of which it says how many there are.
use mathlib.Core.Path.{refl, sym, ◌∙◌}
use Prim.Native.Nat.{◌≤◌}
use native.Mathlib.Omega.{arith}
use Rattle.tables.specs.LineLimits.{max_clauses}
use Rattle.frames.specs.Digits.{bytes}
use Rattle.lines.specs.Layout.{end_of, clause_count_field, clause_count}
use Rattle.lines.proofs.Judged.{field-within}
use Rattle.kinds.proofs.clause_fields.clauses_verdict.Goals.{In_ok-field_verdict}
use Rattle.kinds.proofs.clause_fields.clauses_verdict.Goals as goal

-- the count is there, and not above its limit
there : (c : In_ok-field_verdict) → let l = c.args.frame.line.now in
    (end_of clause_count_field ≤ bytes l) × (clause_count l ≤ max_clauses)
there c =
    let w = field-within c.args.frame.line.now clause_count_field refl (sym c.field_verdict.ensures ∙ c.in_ok-field_verdict.was) in
    (w.0, w.1.1)

pub number_in-requires : goal.number_in-requires
number_in-requires c = omega (arith, there (goal.at.number_in-requires c).In_ok-field_verdict)

pub clause_run_verdict-requires : goal.clause_run_verdict-requires
clause_run_verdict-requires c =
    let t = there (goal.at.clause_run_verdict-requires c).In_ok-field_verdict in
    (omega (arith, t), omega (arith, t))
