-- The sum of the bytes so far, modulo 256: a sum that is carried round at each byte is the whole sum, carried round once.
use mathlib.Core.Path.{◌≡◌}
use Prim.Native.Nat.{◌%◌}
use Rattle.theory.specs.Sum.{sum}
use Rattle.frames.specs.Digits.{byte_at}
use Rattle.frames.proofs.byte_sum.byte_sum.Given as goal

abbrev pub invariant-loop-i : goal.invariant-loop-i
invariant-loop-i l = l.sum ≡ sum l.i (byte_at l.line) % 256
