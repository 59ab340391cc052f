use Rattle.std.proofs.Common.{◌≡◌, ◌<◌}
use Rattle.theory.specs.Fold.{down}
use Rattle.tables.specs.Block.{second}
use Rattle.directional.specs.Directional.{train_round, directed}
use Rattle.directional.proofs.Progress.{Progress}
use Rattle.directional.proofs.round_trains.Given as goal

abbrev pub invariant-loop-j : goal.invariant-loop-j
invariant-loop-j l = (down l.j train_round l.b ≡ directed l.initial.b) × Progress l.initial.b (λ k. second l.initial.b k < l.j) l.b
