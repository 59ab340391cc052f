-- The calls are the definition, one after the other, and what each asks is a part of `InRange`.
use Rattle.std.proofs.lemmas.List.{length-map}
use Rattle.tables.specs.declared.block.Pair.{Pair}
use Rattle.operations.specs.Given.{numbers_lent}
use Rattle.operations.proofs.LoadTurns.{loaded_by}
use Rattle.operations.proofs.load.load_lent.Goals as goal

pub returns : goal.returns
returns c =
    let l = c.args.given.now in
    loaded_by (numbers_lent l) (rw (← length-map l.pairs.now (λ (p : Pair). p.first)) at c.load_head.ensures)
    c.load_sizes.ensures c.load_pairs.ensures c.load_choices.ensures c.load_entries.ensures c.load_order.ensures
