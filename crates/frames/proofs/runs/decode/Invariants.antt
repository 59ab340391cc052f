-- The first k fields stand behind what the list had.
use mathlib.Core.Path.{◌≡◌}
use mathlib.Core.List.{◌++◌}
use Prim.Native.Nat.{◌+◌}
use lib.ListN.{length}
use Rattle.frames.specs.Runs.{run_of}
use Rattle.frames.proofs.runs.decode.Given as goal

abbrev pub invariant-loop-k : goal.invariant-loop-k
invariant-loop-k g l = (length l.out.items ≡ length l.initial.out.items + l.k) × (l.out.items ≡ l.initial.out.items ++ run_of l.line l.at l.width l.k)
