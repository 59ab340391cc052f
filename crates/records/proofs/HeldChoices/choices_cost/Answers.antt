-- The sum so far is that of the trains passed, and the first forbidden choice ends it.
use mathlib.Core.Path.{sym, ◌∙◌}
use native.Mathlib.Omega.{arith}
use Rattle.tables.specs.Block.{trains}
use Rattle.records.proofs.Costs.{points_given, no_points, choices_next}
use Rattle.records.proofs.HeldChoices.choices_cost.Goals as goal

pub returns-in_err-choice_cost : goal.returns-in_err-choice_cost
returns-in_err-choice_cost c =
    c.from_residual.ensures
    ∙ sym (no_points _ _ (trains c.args.self.study.numbers.now) c.loop-i.i (omega arith) c.choice_cost.ensures c.in_err-choice_cost.was)

pub add-sum-requires : goal.add-sum-requires
add-sum-requires c =
    let s = c.args.self in
    omega (
      arith,
      points_given _ _ (sym c.choice_cost.ensures ∙ c.in_ok-choice_cost.was),
      choices_next s.study.held s.choices.now s.held c.loop-i.i (omega arith),
    )
