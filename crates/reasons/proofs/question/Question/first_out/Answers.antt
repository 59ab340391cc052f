-- The answer is the first of the pairs that `find` asks.
use borrow.Author.Tests.{tests}
use Rattle.std.proofs.Common.{rules}
use Rattle.units.specs.Units.{number_of_parts}
use Rattle.tables.specs.Block.{pairs}
use Rattle.tables.specs.Plans.{shape_of, held_costs}
use Rattle.reasons.specs.Reasons.{out_by}
use Rattle.theory.proofs.First.{range_find}
use Rattle.reasons.proofs.question.Question.first_out.Goals as goal

pub returns-clause-value : goal.returns-clause-value
returns-clause-value c =
    let q = c.args.self in
    let b = q.study.numbers.now in
    range_find (out_by (shape_of b) (held_costs b) q.train q.choice (number_of_parts q.limit)) (pairs b) _ _ _ c.find.ensures.ran (cc) (λ x b q k. search (rules, tests))
