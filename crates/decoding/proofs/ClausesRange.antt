-- The clauses of an accepted line are within their limits: what a load of kind 09 asks of the clauses that it stores.
use mathlib.Core.Path.{◌≡◌}
use mathlib.Core.List.{List}
use Prim.Native.Nat.{ℕ, ◌<◌}
use native.Mathlib.Omega.{arith}
use lib.IntN.{pos}
use Rattle.theory.proofs.Lists.{list_length, list_nth}
use Rattle.refusals.specs.Verdicts.{Fine}
use Rattle.clauses.specs.Clauses.{InLimits}
use Rattle.lines.specs.Layout.{load_trains, load_scale, clause_count, clause_first, clause_second, clause_weight}
use Rattle.kinds.specs.Clauses.{clauses_verdict}
use Rattle.kinds.proofs.ClausesAccepted.{clauses_fine}
use Rattle.decoding.specs.Clauses.{clauses_of}

pub clauses_in_limits : (l : List ℕ) → clauses_verdict l ≡ Fine → InLimits (load_trains l) (load_scale l) (clauses_of l)
unfolding clauses_of
clauses_in_limits l e =
    let f = clauses_fine l e in
    let n = clause_count l in
    let weights = list_length (clause_weight l) n in
    record {
      trains = f.head.trains;
      scale = f.head.scale;
      clear = record {
        few = omega (arith, weights, f.few);
        same = (omega (arith, weights, list_length (clause_first l) n), omega (arith, weights, list_length (clause_second l) n));
        literals = λ k q.
            let h : k < n = omega (arith, weights) in
            rw (list_nth (clause_first l) (pos 0) n k h, list_nth (clause_second l) (pos 0) n k h) (f.clause k h).literals;
        weights = λ k q. let h : k < n = omega (arith, weights) in rw (list_nth (clause_weight l) 0 n k h) (f.clause k h).weight;
      };
    }
