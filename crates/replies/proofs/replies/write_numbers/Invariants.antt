use mathlib.Core.List.{[], ◌++◌}
use lib.ListN.{take}
use Rattle.theory.specs.Lists.{nth}
use Rattle.frames.specs.Runs.{run_digits}
use Rattle.lines.specs.Layout.{count_width}
use Rattle.replies.specs.Wrote.{Wrote}
use Rattle.replies.proofs.replies.write_numbers.Given as goal

abbrev pub invariant-loop-k : goal.invariant-loop-k
invariant-loop-k l = Wrote l.initial.reply (take l.from l.initial.reply ++ run_digits count_width l.k (nth l.numbers) []) l.reply l.at
