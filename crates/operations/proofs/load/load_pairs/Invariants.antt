use Rattle.std.specs.Prelude.{map}
use mathlib.Core.Path.{◌≡◌}
use Rattle.theory.specs.Fold.{iter}
use Rattle.operations.proofs.LoadTurns.{pair_turn}
use Rattle.operations.proofs.load.load_pairs.Given as goal

abbrev pub invariant-loop-k : goal.invariant-loop-k
invariant-loop-k l = l.b ≡ iter l.k (pair_turn (map (λ p. p.first) l.pairs) (map (λ p. p.second) l.pairs)) l.initial.b
