-- The numbers that are written are those of the dearest study: in range, and their line fits.
use mathlib.Core.Path.{◌≡◌}
use Prim.Native.Nat.{◌+◌, ◌*◌}
use native.Mathlib.Omega.{arith}
use lib.ListN.{length}
use Rattle.theory.proofs.Lists.{list_length}
use Rattle.dearest.specs.Dearest.{SizesRight}
use Rattle.frames.specs.Fields.{field}
use Rattle.lines.specs.Layout.{count_width}
use Rattle.requests.proofs.Dearest.{dearest_written, dearest_length, dearest_fits}
use Rattle.requests.proofs.dearest_line.answer_dearest.Goals as goal

pub known-requires : goal.known-requires
known-requires c = dearest_written c.dearest-numbers.ensures (rw c.choices_in-sizes.ensures c.requires.1.right)

pub write_load-requires : goal.write_load-requires
write_load-requires c =
    let r : SizesRight c.choices_in-sizes.result.items = rw c.choices_in-sizes.ensures c.requires.1.right in
    let run = c.args.q.sizes in
    let n : length c.choices_in-sizes.result.items ≡ run.count = rw c.choices_in-sizes.ensures (list_length (λ k. field c.args.line.now (run.at + count_width * k) count_width) run.count) in
    rw c.known.ensures (omega (arith, n, dearest_fits c.dearest-numbers.ensures r, dearest_length c.dearest-numbers.ensures r))
