-- The parts so far are those of the trains passed, each of which adds at most 100,000 times the highest held cost.
use mathlib.Core.Path.{sym, ◌∙◌}
use native.Mathlib.Omega.{arith}
use Rattle.tables.specs.Block.{trains}
use Rattle.certificates.specs.Runs.{trains_spared, trains_weighted}
use Rattle.certificates.proofs.Runs.{no_part}
use Rattle.certificates.proofs.weighing.Weighing.trains_weighed.Goals as goal

pub returns-in_err-sum : goal.returns-in_err-sum
unfolding trains_spared trains_weighted
returns-in_err-sum c =
    c.from_residual.ensures ∙ sym (no_part _ _ (trains c.args.self.study.numbers.now) c.loop-i.i (omega arith) c.train_weighed.ensures c.in_err-sum.was)
