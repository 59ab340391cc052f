-- Each train is asked, and there are as many choices as trains.
use mathlib.Core.Path.{sym, ◌∙◌}
use lib.Dec.{ltb}
use lib.ListN.{length}
use borrow.Author.Tests.{tests}
use Rattle.std.proofs.Common.{rules}
use Rattle.std.proofs.lemmas.Iterator.{serves_from_Range}
use Rattle.theory.specs.Lists.{nth}
use Rattle.theory.proofs.Chains.{range_all}
use Rattle.tables.specs.Block.{trains, size}
use Rattle.tables.specs.Plans.{shape_of}
use Rattle.tables.proofs.Held.{right_count}
use Rattle.tables.proofs.Study.{trains_range}
use Rattle.tables.proofs.choices.choices_held.Goals as goal

pub all-requires-clause-callable : goal.all-requires-clause-callable
all-requires-clause-callable c =
    serves_from_Range (λ x q k. search rules) (λ x a h. let t = trains_range c.args.study.held in search rules)

pub returns-then-choices-n : goal.returns-then-choices-n
returns-then-choices-n c =
    let b = c.args.study.numbers.now in
    let l = c.args.choices.now in
    range_all (λ i. ltb (nth l i) (size b i)) (trains b) _ _ _ c.all.ensures.ran (cc) (λ x r q k. search (rules, tests))
    ∙ sym (right_count (shape_of b) (length l) (nth l) (cc))
