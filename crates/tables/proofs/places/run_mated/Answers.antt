-- What is known so far, and what the two iterators still give, is what is asked of all places.
use Rattle.std.proofs.Common.{rules}
use native.Mathlib.Omega.{arith}
use mir.Syntax.{w64}
use mir.Val.{SFits}
use Rattle.std.proofs.lemmas.Int.{to_z-of_z}
use Rattle.tables.proofs.Mates.{passing_start, passing_step, passing_end}
use Rattle.tables.proofs.places.run_mated.Goals as goal

pub loop-x-init : goal.loop-x-init
loop-x-init c = search (rules, passing_start)

pub loop-x-preserved : goal.loop-x-preserved
loop-x-preserved c =
    let s = c.in-Some.ensures.steps in
    let f : SFits w64 c.in-Some.x.now = search rules in
    let g : SFits w64 c.in-Some.y.now = search rules in
    passing_step c.loop-x.invariant s.0 s.1 (simp to_z-of_z at c.are_mates-mated.ensures)

pub returns : goal.returns
returns c = passing_end c.loop-x.invariant (omega (arith, c.in-None.ensures.steps, c.loop-x.invariant))
