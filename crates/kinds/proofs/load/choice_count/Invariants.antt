use mathlib.Core.Path.{◌≡◌}
use Prim.Native.Nat.{◌*◌, ◌≤◌}
use Rattle.theory.specs.Sum.{sum}
use Rattle.tables.specs.Block.{max_choices}
use Rattle.lines.specs.Layout.{load_size}
use Rattle.kinds.proofs.load.choice_count.Given as goal

abbrev pub invariant-loop-i : goal.invariant-loop-i
invariant-loop-i l = (l.count ≡ sum l.i (load_size l.load.frame.line.now)) × (l.count ≤ max_choices * l.i)
