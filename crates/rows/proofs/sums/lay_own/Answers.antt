-- The places passed so far have their own rows: the choices of the train at place d stand from 8 × that train on.
use native.Mathlib.Omega.{arith}
use lib.ListN.{length-set}
use Rattle.tables.proofs.Study.{trains_range}
use Rattle.rows.proofs.Laying.{owned_more}
use Rattle.rows.proofs.sums.lay_own.Goals as goal

pub loop-d-preserved : goal.loop-d-preserved
loop-d-preserved c =
    let l = c.loop-d in
    let g = c.args.listing.now in
    (simp length-set l.invariant.0, owned_more g l.rows _ l.d (omega (arith, trains_range g.ordered.study.held)) (rw c.choice_place-from.ensures at c.walled_row.ensures) l.invariant.1)

pub returns : goal.returns
returns c =
    let l = c.loop-d in
    record { whole = l.invariant.0; own = λ j a h r. l.invariant.1 j a (omega arith) r }
