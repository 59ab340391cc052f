use mathlib.Core.Path.{◌≡◌}
use Prim.Native.Nat.{◌-◌, ◌≤◌}
use Rattle.refusals.specs.Verdicts.{Fine}
use Rattle.frames.specs.Digits.{bytes}
use Rattle.lines.specs.Layout.{pair_at}
use Rattle.kinds.specs.Load.{pairs_verdict}
use Rattle.kinds.proofs.load.rest_verdict.Given as goal

abbrev pub invariant-loop-k : goal.invariant-loop-k
invariant-loop-k l =
    let line = l.load.frame.line.now in record {
      at : l.at ≡ pair_at line l.k;
      last : l.last ≡ pair_at line (l.k - 1);
      behind : l.last ≤ l.at;
      there : l.at ≤ bytes line;
      fine : pairs_verdict line l.k ≡ Fine;
    }
