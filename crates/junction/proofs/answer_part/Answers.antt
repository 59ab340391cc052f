-- Each turn is one step of the definition, from where the step before ended, and prints what that step prints.
use Prim.Native.Nat.{◌<◌}
use native.Mathlib.Omega.{arith}
use lib.ListN.{length}
use Rattle.std.proofs.lemmas.Bool.Decides.{nat_tests}
use Rattle.stream.proofs.Steps.{written_fits}
use Rattle.stream.proofs.Over.{step_prints, in_part_first, used_inside, left_shorter, in_part_next, in_part_last}
use Rattle.junction.proofs.answer_part.Goals as goal

pub loop-rest-init : goal.loop-rest-init
loop-rest-init c = in_part_first c.args.part.now c.args.line.now.items c.args.block.now c.requires

pub print_step-requires : goal.print_step-requires
print_step-requires c =
    (omega (arith, written_fits c.next_line-step.ensures.printed), step_prints c.loop-rest.invariant.after _ c.next_line-step.ensures)

pub slice_bounds-rest-count : goal.slice_bounds-rest-count
slice_bounds-rest-count c =
    let some : 0 < length c.loop-rest.rest.now = grind (arith, nat_tests) in
    used_inside c.loop-rest.invariant some c.next_line-step.ensures

pub slice_bounds-rest-start : goal.slice_bounds-rest-start
slice_bounds-rest-start c =
    let some : 0 < length c.loop-rest.rest.now = grind (arith, nat_tests) in
    used_inside c.loop-rest.invariant some c.next_line-step.ensures

pub loop-rest-smaller : goal.loop-rest-smaller
loop-rest-smaller c =
    let some : 0 < length c.loop-rest.rest.now = grind (arith, nat_tests) in
    left_shorter c.loop-rest.invariant some c.next_line-step.ensures

pub loop-rest-preserved : goal.loop-rest-preserved
loop-rest-preserved c =
    let some : 0 < length c.loop-rest.rest.now = grind (arith, nat_tests) in
    in_part_next c.loop-rest.invariant some c.next_line-step.ensures

pub returns : goal.returns
returns c = λ u e. in_part_last _ _ _ _ c.loop-rest.invariant (grind (arith, nat_tests))
