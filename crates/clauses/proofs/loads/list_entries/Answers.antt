-- The cells are those of the entries of the pairs.
use mathlib.Core.Path.{◌≡◌, sym, ap, ◌∙◌}
use Rattle.std.proofs.Common.{rules, ℕ, ◌<◌, ◌+◌, ◌*◌, ◌/◌, ◌%◌, length}
use Rattle.theory.specs.Lists.{nth}
use Rattle.theory.proofs.Lists.{list_is}
use Rattle.clauses.specs.Clauses.{clause_entries, entry_cost_at}
use Rattle.clauses.proofs.loads.list_entries.Goals as goal

pub returns : goal.returns
returns c =
    let l = c.args.cells.now in
    let m = c.args.codes.now in
    let f = entry_cost_at (nth l) m in
    let s = c.list_cells.result.items in
    let g = c.list_cells.ensures.costs in
    let at_entry : (o : ℕ) → o < clause_entries * length m → f o ≡ nth s o = λ o h. let e : (g o h).0 ≡ clause_entries * nth m (o / clause_entries) + o % clause_entries = search rules in sym ((g o h).2 ∙ ap (nth l) e) in
    sym (list_is (clause_entries * length m) f s c.list_cells.ensures.whole at_entry)
