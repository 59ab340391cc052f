-- The invariant: the clauses so far are the line's first k.
use mathlib.Core.Path.{◌≡◌, ap}
use Prim.Native.Nat.{◌<◌}
use native.Mathlib.Omega.{arith}
use lib.ListN.{length}
use Rattle.theory.specs.Lists.{list_from}
use Rattle.clauses.specs.declared.clause.Clause.{Clause}
use Rattle.clauses.specs.Clauses.{Clauses}
use Rattle.lines.specs.Layout.{clause_count, clause_first, clause_second, clause_weight}
use Rattle.kinds.proofs.ClausesAccepted.{clauses_fine}
use Rattle.decoding.specs.Clauses.{clauses_of}
use Rattle.decoding.proofs.Pushed.{pushed, item_count}
use Rattle.decoding.proofs.decode_clauses_in.Goals.{In-loop-k}
use Rattle.decoding.proofs.decode_clauses_in.Goals as goal

pub number_in-k-end-requires : goal.number_in-k-end-requires
number_in-k-end-requires c = omega (arith, (clauses_fine c.args.frame.line.now c.requires.0).there)

pub loop-k-init : goal.loop-k-init
unfolding list_from
loop-k-init c = rw c.requires.1

-- there is another clause
more : (c : In-loop-k) → c.loop-k.k < clause_count c.args.frame.line.now
more c = omega arith

pub clause-requires : goal.clause-requires
clause-requires c =
    let f = clauses_fine c.args.frame.line.now c.requires.0 in
    let h = more (goal.at.clause-requires c).In-loop-k in
    (omega (arith, f.few), (f.clause c.loop-k.k h).there)

pub push-requires : goal.push-requires
push-requires c =
    let l = c.args.frame.line.now in
    let n : length c.loop-k.clauses.items ≡ c.loop-k.k =
    item_count (λ (x : Clause). x.weight) (clause_weight l) c.loop-k.clauses.items c.loop-k.k (ap (λ (x : Clauses). x.weights) c.loop-k.invariant) in
    (omega arith, omega (arith, (clauses_fine l c.requires.0).few))

pub loop-k-preserved : goal.loop-k-preserved
loop-k-preserved c =
    let l = c.args.frame.line.now in
    let k = c.loop-k.k in
    let s = c.loop-k.clauses.items in
    let x = c.clause.result in
    let e = c.loop-k.invariant in
    rw (
      pushed (λ (x : Clause). x.first) (clause_first l) s k x c.push.ensures.items (ap (λ (x : Clauses). x.firsts) e) c.clause.ensures.first,
      pushed (λ (x : Clause). x.second) (clause_second l) s k x c.push.ensures.items (ap (λ (x : Clauses). x.seconds) e) c.clause.ensures.second,
      pushed (λ (x : Clause). x.weight) (clause_weight l) s k x c.push.ensures.items (ap (λ (x : Clauses). x.weights) e) c.clause.ensures.weight,
    )

pub returns : goal.returns
unfolding clauses_of
returns c =
    let e : c.loop-k.k ≡ clause_count c.args.frame.line.now = omega arith in
    rw e at c.loop-k.invariant
