-- Turn k writes number k into place k, and at the end all places are written.
use mathlib.Core.Path.{◌≡◌, ◌∙◌}
use Prim.Native.Nat.{◌+◌, ◌*◌}
use native.Mathlib.Omega.{arith}
use lib.IntN.{pos}
use lib.ListN.{length}
use Rattle.theory.proofs.Sum.{part_inside}
use Rattle.theory.proofs.Lists.{list_length, paste_next, paste_all}
use Rattle.frames.specs.Fields.{field, signed_field}
use Rattle.frames.specs.Runs.{signed_run_of}
use Rattle.frames.proofs.Bytes.{framed_whole}
use Rattle.frames.proofs.Widths.{field_below, signed_back}
use Rattle.frames.proofs.runs.fill_signed.Goals as goal

pub loop-k-preserved : goal.loop-k-preserved
loop-k-preserved c =
    let a = c.args in
    let l = c.loop-k in
    let f = a.at + a.width * l.k in
    let below = field_below (framed_whole a.line.now c.requires.0) f a.width (omega (arith, part_inside a.width l.k (length a.out.now) (omega arith))) in
    rw l.invariant (paste_next a.out.now (λ k. signed_field a.line.now (a.at + a.width * k) a.width) (length a.out.now) (pos 0) l.k (omega arith) (omega arith)
    (rw (c.signed.ensures, c.field.ensures) (signed_back a.width (field a.line.now f a.width) c.requires.2 below)))

pub returns : goal.returns
returns c =
    let a = c.args in
    let e : c.loop-k.k ≡ length a.out.now = omega arith in
    rw e at c.loop-k.invariant ∙ paste_all a.out.now (signed_run_of a.line.now a.at a.width (length a.out.now)) (list_length _ (length a.out.now))
