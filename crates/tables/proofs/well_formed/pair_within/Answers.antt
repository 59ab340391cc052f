-- Each row of the pair is asked.
use mathlib.Core.Path.{sym, ◌∙◌}
use borrow.Author.Tests.{tests}
use Rattle.std.proofs.Common.{rules}
use Rattle.theory.proofs.Chains.{range_all}
use Rattle.tables.specs.Block.{max_choices}
use Rattle.tables.specs.WellFormed.{cost_to}
use Rattle.tables.proofs.Rows.{entry_row, pair_rows}
use Rattle.tables.proofs.well_formed.pair_within.Goals as goal

pub returns : goal.returns
returns c =
    let a = c.args in
    range_all (entry_row a.b.numbers.now a.from (cost_to a.high) a.k) max_choices _ _ _ c.all.ensures.ran (cc) (λ x b q k. search (rules, tests))
    ∙ sym (pair_rows a.b.numbers.now a.from (cost_to a.high) a.k)
