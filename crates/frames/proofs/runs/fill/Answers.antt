-- Turn k writes field k into place k, and at the end all places are written.
use mathlib.Core.Path.{◌≡◌, ◌∙◌}
use Prim.Native.Nat.{◌+◌, ◌*◌}
use native.Mathlib.Omega.{arith}
use lib.ListN.{length}
use Rattle.theory.proofs.Lists.{list_length, paste_next, paste_all}
use Rattle.frames.specs.Fields.{field}
use Rattle.frames.specs.Runs.{run_of}
use Rattle.frames.proofs.runs.fill.Goals as goal

pub loop-k-preserved : goal.loop-k-preserved
loop-k-preserved c =
    let a = c.args in
    let l = c.loop-k in
    rw l.invariant (paste_next a.out.now (λ k. field a.line.now (a.at + a.width * k) a.width) (length a.out.now) 0 l.k (omega arith) (omega arith) c.field.ensures)

pub returns : goal.returns
returns c =
    let a = c.args in
    let e : c.loop-k.k ≡ length a.out.now = omega arith in
    rw e at c.loop-k.invariant ∙ paste_all a.out.now (run_of a.line.now a.at a.width (length a.out.now)) (list_length _ (length a.out.now))
