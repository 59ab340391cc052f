-- Document 02, change 7, 'Kind 09': the first reason to decline a study written as clauses, and the request that it makes.
use Rattle.std.specs.Prelude.{List, ℕ, leb}
use Rattle.refusals.specs.declared.Refusal.TheVariants.{Fields, Literal}
use Rattle.refusals.specs.Verdicts.{Verdict, then, first_of, unless}
use Rattle.clauses.specs.Clauses.{literals_right}
use Rattle.frames.specs.Digits.{bytes}
use Rattle.lines.specs.declared.request.Request.{Request}
use Rattle.lines.specs.declared.request.Request.TheVariants.{Clauses}
use Rattle.lines.specs.Layout.{load_trains, load_scale, clause_count_field, clause_count, clause_at, clause_weight_field, clause_first, clause_second}
use Rattle.lines.specs.Verdicts.{field_verdict, end_verdict, field_run}
use Rattle.kinds.specs.Load.{head_verdict}

-- clause k: its literals, judged 'after both', then its weight
unfoldable pub clause_verdict : List ℕ → ℕ → Verdict
clause_verdict l k =
    then (unless (leb (clause_weight_field k).at (bytes l)) Fields)
    (then (unless (literals_right (load_trains l) (clause_first l k) (clause_second l k)) Literal) (field_verdict l (clause_weight_field k)))

-- so many clauses, and no bytes left over
unfoldable pub clause_run_verdict : List ℕ → ℕ → Verdict
clause_run_verdict l count = then (first_of count (clause_verdict l)) (end_verdict (bytes l) (clause_at count))

-- n and s as in a load, the count, the clauses
unfoldable pub clauses_verdict : List ℕ → Verdict
clauses_verdict l = then (head_verdict l) (then (field_verdict l clause_count_field) (clause_run_verdict l (clause_count l)))

abbrev pub clauses_request : List ℕ → Request
clauses_request l = Clauses (record { trains = load_trains l; scale = load_scale l; clauses = field_run (clause_at 0) (clause_count l) })
