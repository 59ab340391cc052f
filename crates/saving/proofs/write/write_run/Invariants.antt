use mathlib.Core.List.{[], ◌++◌}
use lib.ListN.{take}
use Rattle.theory.specs.Lists.{nth}
use Rattle.frames.specs.Runs.{run_digits}
use Rattle.replies.specs.Wrote.{Wrote}
use Rattle.saving.proofs.write.write_run.Given as goal

abbrev pub invariant-loop-v : goal.invariant-loop-v
invariant-loop-v l = Wrote l.initial.reply (take l.at l.initial.reply ++ run_digits l.width l.v-index (nth l.list) []) l.reply l.end
