-- Each pair is asked.
use borrow.Author.Tests.{tests}
use Rattle.std.proofs.Common.{rules}
use Rattle.theory.proofs.Chains.{range_all}
use Rattle.tables.specs.Block.{pairs}
use Rattle.tables.specs.WellFormed.{pair_right, pairs_right}
use Rattle.tables.proofs.well_formed.pairs_right.Goals as goal

pub returns : goal.returns
unfolding pairs_right
returns c = let b = c.args.b.now in range_all (pair_right b) (pairs b) _ _ _ c.all.ensures.ran (cc) (λ x b q k. search (rules, tests))
