-- What is found so far is the least of the first places of the run, and each turn takes in one more.
use Rattle.std.proofs.Common.{◌≡◌}
use Rattle.tables.specs.Block.{figure}
use Rattle.rewriting.specs.Moves.{run_place}
use Rattle.rewriting.specs.Leasts.{open_place, found_of}
use Rattle.rewriting.proofs.leasts.run_least.Given as goal

abbrev pub invariant-loop-i : goal.invariant-loop-i
invariant-loop-i l = l.least ≡ found_of l.i (λ j. open_place l.b (run_place l.run j)) (λ j. figure l.b (run_place l.run j))
