-- The train at the next place is one that is at none before.
use native.Mathlib.Omega.{arith}
use Rattle.std.proofs.Common.{refl, ◌∙◌, ◌<◌}
use lib.ListN.{length, length-set}
use Rattle.theory.specs.Lists.{nth}
use Rattle.tables.specs.Block.{trains}
use Rattle.tables.proofs.Study.{trains_range}
use Rattle.rows.proofs.Placing.{train_below, placed_more, placed_past, placed_choices}
use Rattle.rows.proofs.ordered_study.OrderedStudy.by_train.Goals as goal

pub loop-d-preserved : goal.loop-d-preserved
loop-d-preserved c =
    let l = c.loop-d in
    let o = c.args.self.now in
    let h : l.d < trains o.study.numbers.now = omega (arith, c.loop-d-test.true, c.trains-d-end.ensures) in
    let q : nth o.order l.d < length l.by_train = omega (arith, train_below o l.d h, trains_range o.study.held, l.invariant.0) in (
      simp length-set l.invariant.0,
      placed_more o.once (nth c.args.choices.now) l.by_train l.d (nth c.args.choices.now l.d) h q refl l.invariant.1,
      (λ t r. placed_past o.once (nth c.args.choices.now) l.by_train l.d (nth c.args.choices.now l.d) t h r ∙ l.invariant.2 t r),
    )

pub returns : goal.returns
returns c =
    let l = c.loop-d in
    placed_choices c.args.self.now.once c.args.choices.now l.by_train l.invariant.0 (λ e q. l.invariant.1 e (omega (arith, c.trains-d-end.ensures))) l.invariant.2
