-- The sum so far is that of the pairs passed, and the first forbidden entry ends it.
use mathlib.Core.Path.{sym, ◌∙◌}
use native.Mathlib.Omega.{arith}
use Rattle.tables.specs.Block.{pairs}
use Rattle.records.proofs.Costs.{points_given, no_points, pairs_next}
use Rattle.records.proofs.HeldChoices.pairs_cost.Goals as goal

pub returns-in_err-pair_cost : goal.returns-in_err-pair_cost
returns-in_err-pair_cost c =
    c.from_residual.ensures
    ∙ sym (no_points _ _ (pairs c.args.self.study.numbers.now) c.loop-k.k (omega arith) c.pair_cost.ensures c.in_err-pair_cost.was)

pub add-sum-requires : goal.add-sum-requires
add-sum-requires c =
    let s = c.args.self in
    omega (
      arith,
      points_given _ _ (sym c.pair_cost.ensures ∙ c.in_ok-pair_cost.was),
      pairs_next s.study.held s.choices.now s.held c.loop-k.k (omega arith),
    )
