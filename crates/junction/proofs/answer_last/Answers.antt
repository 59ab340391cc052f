-- What is printed is the definition's answer at the end of the input, and it fits the buffer.
use native.Mathlib.Omega.{arith}
use Rattle.stream.proofs.Steps.{written_fits}
use Rattle.stream.proofs.Over.{end_prints}
use Rattle.junction.proofs.answer_last.Goals as goal

pub print_end-requires : goal.print_end-requires
print_end-requires c =
    let e = c.as_slice-kept.ensures.value in
    let n = rw e at c.last_line-n.ensures in
    rw e (omega (arith, written_fits n), end_prints c.requires n)
