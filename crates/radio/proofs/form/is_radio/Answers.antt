-- A second form is a frame, and so has a first byte.
use mathlib.Core.Path.{sym}
use native.Mathlib.Omega.{arith}
use Rattle.std.proofs.lemmas.Bool.{false_from_ne_true}
use Rattle.radio.specs.Forms.{is_radio}
use Rattle.radio.proofs.Digits.{framed_some}
use Rattle.radio.proofs.Forms.{second}
use Rattle.radio.proofs.form.is_radio.Goals as goal

pub returns-then-line : goal.returns-then-line
returns-then-line c = sym (false_from_ne_true (is_radio c.args.line.now) (λ e. omega (arith, framed_some c.args.line.now (second e).frame.digits)))
