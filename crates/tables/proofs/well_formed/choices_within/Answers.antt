-- The row of each train is asked.
use mathlib.Core.Path.{sym, ◌∙◌}
use borrow.Author.Tests.{tests}
use Rattle.std.proofs.Common.{rules}
use Rattle.theory.proofs.Chains.{range_all}
use Rattle.tables.specs.Block.{max_trains}
use Rattle.tables.specs.WellFormed.{cost_to}
use Rattle.tables.proofs.Rows.{choice_row, choices_rows}
use Rattle.tables.proofs.well_formed.choices_within.Goals as goal

pub returns : goal.returns
returns c =
    let a = c.args in
    range_all (choice_row a.b.numbers.now a.from (cost_to a.high)) max_trains _ _ _ c.all.ensures.ran (cc) (λ x b q k. search (rules, tests))
    ∙ sym (choices_rows a.b.numbers.now a.from (cost_to a.high))
