-- What is known of a study written as clauses once its fields were judged fine: which fields are there, their ranges, and where the line ends.
use mathlib.Core.Path.{◌≡◌, refl, sym}
use mathlib.Core.Bool.{true}
use mathlib.Core.List.{List}
use Prim.Native.Nat.{ℕ, ◌+◌, ◌<◌, ◌≤◌}
use native.Mathlib.Omega.{arith}
use lib.Dec.{leb}
use Rattle.refusals.specs.declared.Refusal.TheVariants.{Fields, Literal}
use Rattle.refusals.specs.Verdicts.{Fine, then, first_of, unless}
use Rattle.refusals.proofs.Verdicts.{then_fine, unless_fine, first_fine}
use Rattle.tables.specs.Block.{max_cost}
use Rattle.tables.specs.LineLimits.{max_clauses}
use Rattle.clauses.specs.Clauses.{literals_right}
use Rattle.frames.specs.Digits.{bytes}
use Rattle.lines.specs.Layout.{load_trains, clause_count_field, clause_count, clause_at, clause_weight_field, clause_first, clause_second, clause_weight}
use Rattle.lines.specs.Verdicts.{field_verdict, end_verdict}
use Rattle.lines.proofs.Judged.{field-within, end_fine}
use Rattle.kinds.specs.Load.{head_verdict}
use Rattle.kinds.specs.Clauses.{clause_verdict, clause_run_verdict, clauses_verdict}
use Rattle.kinds.proofs.LoadFields.{Head, head_fine}

-- a clause that was judged fine
pub record FineClause (l : List ℕ) (k : ℕ) : Type 0 where
  pub there : clause_at (k + 1) ≤ bytes l
  pub literals : literals_right (load_trains l) (clause_first l k) (clause_second l k) ≡ true
  pub weight : clause_weight l k ≤ max_cost

clause_fine : (l : List ℕ) (k : ℕ) → clause_verdict l k ≡ Fine → FineClause l k
unfolding clause_verdict
clause_fine l k e =
    let right = literals_right (load_trains l) (clause_first l k) (clause_second l k) in
    let weight = field_verdict l (clause_weight_field k) in
    let f = then_fine (unless (leb (clause_weight_field k).at (bytes l)) Fields) (then (unless right Literal) weight) e in
    let g = then_fine (unless right Literal) weight f.1 in
    let w = field-within l (clause_weight_field k) refl g.1 in
    record { there = omega (arith, w.0); literals = unless_fine right Literal g.0; weight = w.1.1 }

pub record FineClauses (l : List ℕ) : Type 0 where
  pub head : Head l
  pub there : clause_at 0 ≤ bytes l
  pub few : clause_count l ≤ max_clauses
  pub clause : (k : ℕ) → k < clause_count l → FineClause l k
  pub ends : bytes l ≡ clause_at (clause_count l)

pub clauses_fine : (l : List ℕ) → clauses_verdict l ≡ Fine → FineClauses l
unfolding clauses_verdict clause_run_verdict
clauses_fine l e =
    let n = clause_count l in
    let h = then_fine (head_verdict l) (then (field_verdict l clause_count_field) (clause_run_verdict l n)) e in
    let c = then_fine (field_verdict l clause_count_field) (clause_run_verdict l n) h.1 in
    let r = then_fine (first_of n (clause_verdict l)) (end_verdict (bytes l) (clause_at n)) c.1 in
    let w = field-within l clause_count_field refl c.0 in
    record {
      head = head_fine l h.0;
      there = omega (arith, w.0);
      few = w.1.1;
      clause = λ k q. clause_fine l k (first_fine (clause_verdict l) n r.0 k q);
      ends = sym (end_fine (bytes l) (clause_at n) r.1);
    }
