-- Each cost is asked.
use mathlib.Core.Path.{◌∙◌}
use borrow.Author.Tests.{tests}
use lib.Dec.{leb}
use Rattle.std.proofs.Common.{rules}
use Rattle.std.proofs.lemmas.Iterator.{YieldsList-from_slice}
use Rattle.std.proofs.lemmas.Iterator.Search.{all_from_yields_List}
use Rattle.theory.proofs.Range.{list_all-all}
use Rattle.tables.specs.Block.{max_cost}
use Rattle.clauses.specs.Clauses.{costs_within}
use Rattle.clauses.proofs.loads.costs_within.Goals as goal

pub returns : goal.returns
unfolding costs_within
returns c =
    let l = c.args.costs.now in
    all_from_yields_List (λ x. leb x max_cost) _ _ _ c.all.ensures.ran (YieldsList-from_slice l (cc)) (λ x b q k. search (rules, tests)) ∙ list_all-all (λ x. leb x max_cost) 0 l
