-- The front of the old block that the loop has gone through is put back.
use Rattle.std.proofs.Common.{◌≡◌, take}
use Rattle.rewriting.specs.Judged.{kept}
use Rattle.rewriting.proofs.judging.put_back.Given as goal

abbrev pub invariant-loop-p : goal.invariant-loop-p
invariant-loop-p l = l.end ≡ kept (take l.p l.old) l.initial.end
