-- Each pair is asked.
use mathlib.Core.Path.{sym, ◌∙◌}
use borrow.Author.Tests.{tests}
use Rattle.std.proofs.Common.{rules}
use Rattle.theory.proofs.Chains.{range_all}
use Rattle.tables.specs.Block.{max_pairs}
use Rattle.tables.specs.Rows.{pair_within}
use Rattle.tables.specs.WellFormed.{cost_to}
use Rattle.tables.proofs.Rows.{entries_rows}
use Rattle.tables.proofs.well_formed.entries_within.Goals as goal

pub returns : goal.returns
returns c =
    let a = c.args in
    range_all (λ k. pair_within a.b.numbers.now a.from k (cost_to a.high)) max_pairs _ _ _ c.all.ensures.ran (cc) (λ x b q k. search (rules, tests))
    ∙ sym (entries_rows a.b.numbers.now a.from (cost_to a.high))
