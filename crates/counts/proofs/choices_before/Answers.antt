-- The sizes of the trains are the terms of the sum.
use native.Mathlib.Omega.{arith}
use borrow.Author.Tests.{tests}
use Rattle.std.proofs.Common.{ℕ, ◌<◌, ap, rules, of_calls}
use Rattle.std.specs.declared.ops.Range.{Range}
use Rattle.std.proofs.lemmas.Iterator.{serves_from_Range}
use Rattle.tables.specs.Block.{max_trains, size}
use Rattle.tables.proofs.Study.{trains_range}
use Rattle.tables.proofs.Counting.{choices_most}
use Rattle.counts.proofs.Sums.{sum_fits, sum_is}
use Rattle.counts.proofs.choices_before.Goals as goal

pub sum-requires-clause-can : goal.sum-requires-clause-can
sum-requires-clause-can c = (
  tt,
  serves_from_Range
      (λ x q r. search rules)
      (λ x l h. let w : x < max_trains = omega (arith, ap (λ (r : Range ℕ). r.end) c.map.ensures.source, c.requires, trains_range c.args.study.held) in search (of_calls, w)),
)

pub sum-requires-clause-fits : goal.sum-requires-clause-fits
sum-requires-clause-fits c =
    sum_fits (size c.args.study.numbers.now) c.args.i c.map.result c.map.ensures.source c.map.ensures.closure (λ x r q k. (search (rules, tests), search (rules, tests))) _
    (omega (arith, choices_most c.args.study.held c.args.i c.requires, trains_range c.args.study.held))

pub returns : goal.returns
returns c =
    sum_is (size c.args.study.numbers.now) c.args.i c.map.result c.map.ensures.source c.map.ensures.closure (λ x r q k. (search (rules, tests), search (rules, tests))) c.sum.result c.sum.ensures.ran
