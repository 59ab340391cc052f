-- Both parts are there, and fit together.
use mathlib.Core.Path.{sym, ◌∙◌}
use native.Mathlib.Omega.{arith}
use Rattle.records.proofs.Costs.{points_given, parts_most}
use Rattle.records.proofs.HeldChoices.cost.Goals as goal

pub add-requires : goal.add-requires
add-requires c =
    let s = c.args.self in
    omega (
      arith,
      points_given _ _ (sym c.choices_cost.ensures ∙ c.in_ok-choices.was),
      points_given _ _ (sym c.pairs_cost.ensures ∙ c.in_ok-pairs.was),
      parts_most s.study.held s.choices.now s.held,
    )
