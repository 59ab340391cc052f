use mathlib.Core.List.{[], ◌++◌}
use lib.ListN.{take}
use Rattle.frames.specs.Runs.{run_digits}
use Rattle.replies.specs.Replies.{choice_width, shown_choice}
use Rattle.replies.specs.Wrote.{Wrote}
use Rattle.replies.proofs.replies.write_plan.Given as goal

abbrev pub invariant-loop-i : goal.invariant-loop-i
invariant-loop-i l = Wrote l.initial.reply (take l.from l.initial.reply ++ run_digits choice_width l.i (shown_choice l.f) []) l.reply l.at
