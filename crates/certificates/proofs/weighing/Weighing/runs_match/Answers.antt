-- The answer is `all` over the runs, each of which sums to its weight or does not. No run starts past the weights, since each has a first one.
use Rattle.std.proofs.Common.{rules}
use borrow.Author.Tests.{tests}
use Rattle.std.proofs.lemmas.Iterator.{serves_from_Range}
use Rattle.theory.proofs.Chains.{range_all}
use Rattle.certificates.specs.Runs.{run_matches}
use Rattle.certificates.proofs.weighing.Weighing.runs_match.Goals as goal

pub all-requires-clause-callable : goal.all-requires-clause-callable
all-requires-clause-callable c = serves_from_Range (λ x q k. search rules) (λ x a h. let e = c.requires.each x h in let i = e.inside 0 e.some in search rules)

pub returns : goal.returns
returns c =
    let a = c.args in
    range_all (run_matches a.self.weights.now a.from a.apart a.step a.count a.choices) a.runs _ _ _ c.all.ensures.ran (search rules) (λ x b q k. search (rules, tests))
