-- The moves of the pairs are the terms of the sum.
use native.Mathlib.Omega.{arith}
use borrow.Author.Tests.{tests}
use Rattle.std.proofs.Common.{rules, refl, ◌∙◌}
use Rattle.tables.specs.Plans.{shape_of}
use Rattle.tables.specs.Counts.{pair_moves}
use Rattle.tables.proofs.Counting.{move_count_most}
use Rattle.counts.proofs.Sums.{sum_fits, sum_is}
use Rattle.counts.proofs.move_count.Goals as goal

pub sum-requires-clause-fits : goal.sum-requires-clause-fits
sum-requires-clause-fits c =
    sum_fits (pair_moves (shape_of c.args.study.numbers.now)) c.pairs.result c.map.result c.map.ensures.source c.map.ensures.closure (λ x r q k. (search (rules, tests), search (rules, tests))) _
    (rw c.pairs.ensures (omega (arith, move_count_most c.args.study.held)))

pub returns : goal.returns
returns c =
    sum_is (pair_moves (shape_of c.args.study.numbers.now)) c.pairs.result c.map.result c.map.ensures.source c.map.ensures.closure (λ x r q k. (search (rules, tests), search (rules, tests))) c.sum.result c.sum.ensures.ran
    ∙ rw c.pairs.ensures refl
