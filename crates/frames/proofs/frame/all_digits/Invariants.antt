-- Whether all characters so far are digits.
use mathlib.Core.Path.{◌≡◌}
use lib.ListN.{get_or}
use Rattle.theory.specs.Range.{all}
use Rattle.frames.specs.Frames.{is_digit}
use Rattle.frames.proofs.frame.all_digits.Given as goal

abbrev pub invariant-loop-c : goal.invariant-loop-c
invariant-loop-c l = l.so_far ≡ all l.c-index (λ k. is_digit (get_or l.line k 0))
