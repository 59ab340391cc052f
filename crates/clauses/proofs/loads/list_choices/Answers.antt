-- The cells are those of the choices.
use mathlib.Core.Path.{◌≡◌, sym, ap, ◌∙◌}
use Rattle.std.proofs.Common.{rules, ℕ, ◌<◌, ◌*◌, ◌/◌, ◌%◌}
use Rattle.theory.specs.Lists.{nth}
use Rattle.theory.proofs.Lists.{list_is}
use Rattle.clauses.specs.Clauses.{clause_choices, cell_at, choice_cost_at}
use Rattle.clauses.proofs.loads.list_choices.Goals as goal

pub returns : goal.returns
returns c =
    let l = c.args.cells.now in
    let f = choice_cost_at (nth l) in
    let s = c.list_cells.result.items in
    let g = c.list_cells.ensures.costs in
    let at_entry : (o : ℕ) → o < clause_choices * c.args.n → f o ≡ nth s o = λ o h. let e : (g o h).0 ≡ cell_at (o / clause_choices) (o % clause_choices) (o / clause_choices) (o % clause_choices) = search rules in sym ((g o h).2 ∙ ap (nth l) e) in
    sym (list_is (clause_choices * c.args.n) f s c.list_cells.ensures.whole at_entry)
