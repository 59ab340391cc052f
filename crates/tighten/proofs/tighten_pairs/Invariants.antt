use Rattle.std.proofs.Common.{◌≡◌}
use Rattle.theory.specs.Fold.{iter}
use Rattle.tighten.specs.Tighten.{pair_tightened}
use Rattle.tighten.proofs.tighten_pairs.Given as goal

abbrev pub invariant-loop-k : goal.invariant-loop-k
invariant-loop-k l = l.b ≡ iter l.k pair_tightened l.initial.b
