-- The sum so far is that of the weights passed, each times its number, and the first weight that is not spared ends the loop.
-- The weights are within W, so that no front of it is more than 100,000 times the highest held cost.
use mathlib.Core.Path.{sym, ◌∙◌}
use Prim.Native.Nat.{◌+◌}
use native.Mathlib.Omega.{arith}
use lib.ListN.{get_or}
use Rattle.theory.proofs.Range.{all_false}
use Rattle.certificates.specs.Runs.{weight_spared}
use Rattle.certificates.proofs.Runs.{weight_closed}
use Rattle.certificates.proofs.weighing.Weighing.run_weighed.Goals as goal

pub returns-then-not-is_open : goal.returns-then-not-is_open
returns-then-not-is_open c =
    let a = c.args in
    rw (all_false (λ k. weight_spared a.self.study.numbers.now (a.place + k) (get_or a.self.weights.now (a.from + k) 0)) a.count c.loop-k.k (omega arith) (weight_closed (sym c.is_open.ensures ∙ c.if-not-is_open.true) c.if-weight-gt0.true))
