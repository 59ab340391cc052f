use Rattle.std.proofs.Common.{◌≡◌}
use Rattle.theory.specs.Fold.{iter}
use Rattle.directional.specs.Directional.{pair_turn}
use Rattle.directional.proofs.round_train.Given as goal

abbrev pub invariant-loop-k : goal.invariant-loop-k
invariant-loop-k l = l.b ≡ iter l.k (pair_turn l.j) l.initial.b
