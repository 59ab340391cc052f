-- The cells hold what the clauses so far charge, and their codes are marked: each turn takes one clause more. So the marked pairs are in the end those that are named.
use mathlib.Core.Path.{◌≡◌, sym, ◌∙◌}
use Prim.Native.Nat.{◌<◌}
use native.Mathlib.Omega.{arith}
use lib.ListN.{length}
use Rattle.clauses.specs.Clauses.{count}
use Rattle.clauses.specs.Given.{clauses_given}
use Rattle.clauses.proofs.Given.{given_count, given_first, given_second, given_weight, given_cell}
use Rattle.clauses.proofs.Turns.{charged_none, charged_more, cost_most, marked_none, marked_more, marked_codes}
use Rattle.clauses.proofs.charges.charge_in.Goals as goal

pub loop-clause-init : goal.loop-clause-init
loop-clause-init c = (rw c.requires.0 (charged_none (clauses_given c.args.clauses.items.now)), marked_none (clauses_given c.args.clauses.items.now))

pub clause_cell-cell-requires : goal.clause_cell-cell-requires
clause_cell-cell-requires c =
    let l = c.args.clauses.items.now in
    let k = c.loop-clause.clause-index in
    rw (← given_first l k, ← given_second l k) (c.args.clauses.clear.literals k (omega (arith, given_count l)))

pub loop-clause-preserved : goal.loop-clause-preserved
loop-clause-preserved c =
    let l = c.args.clauses.items.now in
    let k = c.loop-clause.clause-index in
    let e = c.clause_cell-cell.ensures.value ∙ sym (given_cell l k) in
    let h = c.clause_cell-cell.ensures.bound in (
      charged_more (clauses_given l) k c.loop-clause.cells c.loop-clause.invariant.0 e (sym (given_weight l k)) h,
      marked_more (clauses_given l) k c.loop-clause.marks c.loop-clause.invariant.1 e h,
    )

pub overflow_add-cells : goal.overflow_add-cells
overflow_add-cells c =
    let l = c.args.clauses.items.now in
    let k = c.loop-clause.clause-index in
    let o = c.clause_cell-cell.result in
    let g = c.args.clauses.clear in
    let h : k < count (clauses_given l) = omega (arith, given_count l) in
    omega (arith, c.loop-clause.invariant.0.costs o c.clause_cell-cell.ensures.bound, cost_most (clauses_given l) g k o (omega arith), g.few, g.weights k h, given_weight l k)

pub returns-clause-costs : goal.returns-clause-costs
returns-clause-costs c =
    let e : c.loop-clause.clause-index ≡ length c.args.clauses.items.now = omega arith in
    rw e at c.loop-clause.invariant.0

pub returns-clause-pairs : goal.returns-clause-pairs
returns-clause-pairs c =
    let l = c.args.clauses.items.now in
    let e : c.loop-clause.clause-index ≡ count (clauses_given l) = omega (arith, given_count l) in
    c.list_codes.ensures ∙ marked_codes (clauses_given l) c.loop-clause.marks (rw e at c.loop-clause.invariant.1)
