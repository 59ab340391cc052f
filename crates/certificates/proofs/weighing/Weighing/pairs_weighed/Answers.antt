-- The parts so far are those of the pairs passed, each of which has at most eight rows. `from` is where the weights of pair k begin.
use mathlib.Core.Path.{sym, ◌∙◌}
use native.Mathlib.Omega.{arith}
use Rattle.tables.specs.Block.{pairs}
use Rattle.certificates.specs.Runs.{pairs_spared, pairs_weighted}
use Rattle.certificates.proofs.Runs.{no_part}
use Rattle.certificates.proofs.weighing.Weighing.pairs_weighed.Goals as goal

pub returns-in_err-sum : goal.returns-in_err-sum
unfolding pairs_spared pairs_weighted
returns-in_err-sum c =
    c.from_residual.ensures ∙ sym (no_part _ _ (pairs c.args.self.study.numbers.now) c.loop-k.k (omega arith) c.pair_weighed.ensures c.in_err-sum.was)
