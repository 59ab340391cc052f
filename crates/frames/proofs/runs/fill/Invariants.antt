-- The first k fields stand in their places, and the other places are as they were.
use mathlib.Core.Path.{◌≡◌}
use lib.ListN.{length}
use lib.Seq.{paste}
use Rattle.frames.specs.Runs.{run_of}
use Rattle.frames.proofs.runs.fill.Given as goal

abbrev pub invariant-loop-k : goal.invariant-loop-k
invariant-loop-k l = l.out ≡ paste l.initial.out 0 (run_of l.line l.at l.width (length l.initial.out)) l.k
