-- The number of the bytes so far fits 64 bits, since no byte is above 272.
use mathlib.Core.Path.{◌≡◌}
use Rattle.frames.specs.Fields.{field}
use Rattle.frames.proofs.fields.field.Given as goal

abbrev pub invariant-loop-w : goal.invariant-loop-w
invariant-loop-w l = l.v ≡ field l.line l.at l.w
