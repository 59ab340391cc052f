-- Product and sum of the sizes so far are carried on by each turn.
use Rattle.theory.specs.Lists.{nth}
use Rattle.dearest.proofs.Within.{so_far_none, so_far_next, above_settles}
use Rattle.dearest.proofs.tries_within.Goals as goal

pub loop-size-init : goal.loop-size-init
loop-size-init c = so_far_none (nth c.args.sizes.now)

pub returns-then-tries-gt-MOST_TRIES : goal.returns-then-tries-gt-MOST_TRIES
returns-then-tries-gt-MOST_TRIES c = above_settles c.loop-size.invariant _ c.loop-size-test.true c.if-tries-gt-MOST_TRIES.true

pub loop-size-preserved : goal.loop-size-preserved
loop-size-preserved c = so_far_next c.loop-size.invariant c.if-tries-gt-MOST_TRIES.false
