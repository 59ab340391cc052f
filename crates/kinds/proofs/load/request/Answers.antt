-- Once the fields were judged fine, each is there to be read, and the counts give the places of the runs.
use mathlib.Core.Path.{refl}
use Prim.Native.Nat.{◌≤◌}
use native.Mathlib.Omega.{arith}
use Rattle.frames.specs.Digits.{bytes}
use Rattle.lines.specs.Layout.{end_of, pair_count_field}
use Rattle.lines.proofs.Judged.{field-within}
use Rattle.kinds.specs.Load.{Sized}
use Rattle.kinds.proofs.LoadAccepted.{load_fine, load_sized}
use Rattle.kinds.proofs.load.request.Goals.{Start}
use Rattle.kinds.proofs.load.request.Goals as goal

fits : (c : Start) → Sized c.args.frame.line.now
fits c = load_sized (load_fine c.args.frame.line.now c.requires.0)

there : (c : Start) → end_of (pair_count_field c.args.frame.line.now) ≤ bytes c.args.frame.line.now
there c = (field-within _ _ refl (load_fine c.args.frame.line.now c.requires.0).count).0

pub invariant_of-load : goal.invariant_of-load
invariant_of-load c = record { sized = fits (goal.at.invariant_of-load c).Start }

pub end-requires : goal.end-requires
end-requires c =
    rw c.pair_count_field-pairs.ensures (omega (arith, (fits (goal.at.end-requires c).Start).trains, c.choice_count-count.ensures), omega arith)

pub number_in-requires-2 : goal.number_in-requires-2
number_in-requires-2 c = rw c.pair_count_field-pairs.ensures (omega (arith, there (goal.at.number_in-requires-2 c).Start), omega arith)
