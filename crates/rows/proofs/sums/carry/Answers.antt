-- The rows of the pairs below k are summed with the choice of t, for every shape and costs that have this table; those of the pairs before t's stay.
use mathlib.Core.Path.{◌≡◌}
use Prim.Native.Nat.{◌+◌}
use native.Mathlib.Omega.{arith}
use Rattle.rows.specs.Table.{begin_of}
use Rattle.rows.proofs.Rows.{steady_trans, steady_set, carrying_room, carrying_base, carrying_low, carrying_more}
use Rattle.rows.proofs.sums.carry.Goals as goal

pub bounds-chosen-t : goal.bounds-chosen-t
bounds-chosen-t c = omega (arith, carrying_room c.requires.at)

pub offset_bounds-rows-table : goal.offset_bounds-rows-table
offset_bounds-rows-table c = omega (arith, carrying_base c.requires.at c.loop-k.auto.k c.loop-k-test.true)

pub bounds-rows-table : goal.bounds-rows-table
bounds-rows-table c = omega (arith, carrying_base c.requires.at c.loop-k.auto.k c.loop-k-test.true)

pub row_with-requires : goal.row_with-requires
row_with-requires c =
    let r = c.requires in
    carrying_low r.at c.loop-k.auto.k c.loop-k-test.true (c.loop-k.invariant.0 r.shape r.costs r.scale r.bound r.at)

pub loop-k-preserved : goal.loop-k-preserved
loop-k-preserved c =
    let l = c.loop-k in (
      (λ s u scale bound r. carrying_more r l.auto.k c.loop-k-test.true (l.invariant.0 s u scale bound r) _ c.row_with.ensures),
      steady_trans l.invariant.1 (steady_set _ l.k _ _ l.auto.k),
    )

pub returns : goal.returns
returns c =
    let l = c.loop-k in
    let h : l.k ≡ begin_of c.args.table.now (c.args.t + 1) = omega (arith, carrying_room c.requires.at) in
    record { summed = λ s u scale bound r. rw h at (l.invariant.0 s u scale bound r); steady = l.invariant.1 }
