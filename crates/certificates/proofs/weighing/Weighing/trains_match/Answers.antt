-- The answer is `all` over the trains, each of which sums to W or does not.
use Rattle.std.proofs.Common.{rules}
use borrow.Author.Tests.{tests}
use Rattle.theory.proofs.Chains.{range_all}
use Rattle.certificates.specs.Runs.{train_matches, trains_match}
use Rattle.certificates.proofs.weighing.Weighing.trains_match.Goals as goal

pub returns : goal.returns
unfolding trains_match
returns c =
    let w = c.args.self in
    range_all (train_matches w.study.numbers.now w.weights.now c.args.full) _ _ _ _ c.all.ensures.ran (search rules) (λ x b q k. search (rules, tests))
