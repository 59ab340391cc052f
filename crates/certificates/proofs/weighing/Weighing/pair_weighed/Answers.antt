-- The parts so far are those of the rows passed, each of which adds at most 100,000 times the highest held cost.
use mathlib.Core.Path.{◌≡◌, sym, ◌∙◌}
use Prim.Native.Nat.{◌+◌}
use native.Mathlib.Omega.{arith}
use Rattle.theory.proofs.Sum.{sum_more}
use Rattle.tables.specs.Plans.{shape_of}
use Rattle.tables.specs.Counts.{rows_of}
use Rattle.tables.proofs.Counting.{rows_range}
use Rattle.certificates.specs.Runs.{row_spared, pair_spared, row_weighted, pair_weighted, weighed}
use Rattle.certificates.proofs.Runs.{row_weights, rows_most, row_open, part_given, next_part, no_part}
use Rattle.certificates.proofs.weighing.Weighing.pair_weighed.Goals.{After-run_weighed}
use Rattle.certificates.proofs.weighing.Weighing.pair_weighed.Goals as goal

pub run_weighed-requires : goal.run_weighed-requires
run_weighed-requires c =
    let w = c.args.self in
    rw (c.requires.pair_from.begins, c.columns_of-columns.ensures, c.entry_place-place.ensures)
    (row_weights w.study.held c.args.k c.requires.pair_from.there c.requires.rows_within w.fit c.loop-a.a (omega arith))

-- the call answers for row a
run : (c : After-run_weighed)
    → c.run_weighed.result
    ≡ weighed (row_spared c.args.self.study.numbers.now c.args.self.weights.now c.args.k c.loop-a.a) (row_weighted c.args.self.study.numbers.now c.args.self.weights.now c.args.k c.loop-a.a)
run c =
    let w = c.args.self in
    rw (c.requires.pair_from.begins, c.columns_of-columns.ensures, c.entry_place-place.ensures) at c.run_weighed.ensures
    ∙ row_open w.study.held w.weights.now c.args.k c.requires.pair_from.there c.loop-a.a (omega arith)

pub returns-in_err-sum : goal.returns-in_err-sum
unfolding pair_spared pair_weighted
returns-in_err-sum c =
    c.from_residual.ensures
    ∙ sym (no_part _ _ (rows_of (shape_of c.args.self.study.numbers.now) c.args.k) c.loop-a.a (omega arith) (run (goal.at.returns-in_err-sum c).After-run_weighed) c.in_err-sum.was)

pub overflow_add-sum : goal.overflow_add-sum
overflow_add-sum c =
    let w = c.args.self in
    let h = c.requires.pair_from.there in
    omega (
      arith,
      part_given _ _ (sym (run (goal.at.overflow_add-sum c).After-run_weighed) ∙ c.in_ok-sum.was),
      sum_more c.loop-a.a (row_weighted w.study.numbers.now w.weights.now c.args.k),
      rows_most w.study.held c.args.k h c.requires.rows_within (c.loop-a.a + 1) (omega arith),
      rows_range w.study.held c.args.k h,
    )

pub loop-a-preserved : goal.loop-a-preserved
loop-a-preserved c = next_part _ _ c.loop-a.a c.loop-a.invariant.0 c.loop-a.invariant.1 (run (goal.at.loop-a-preserved c).After-run_weighed) c.in_ok-sum.was
