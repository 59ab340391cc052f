-- The fields so far are fine.
use mathlib.Core.Path.{◌≡◌}
use Rattle.refusals.specs.Verdicts.{Fine}
use Rattle.lines.specs.Verdicts.{run_verdict}
use Rattle.lines.proofs.verdict.run_verdict.Given as goal

abbrev pub invariant-loop-k : goal.invariant-loop-k
invariant-loop-k l = run_verdict l.frame.line.now l.f l.k ≡ Fine
