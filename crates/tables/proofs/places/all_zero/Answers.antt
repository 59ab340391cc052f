-- The bits of the numbers so far are joined, and they are all 0 where each of the numbers is 0.
use mathlib.Core.Path.{◌≡◌, sym}
use native.Mathlib.Omega.{arith}
use mir.Facts.{of_z-to_z}
use Rattle.std.proofs.Common.{rules}
use Rattle.theory.proofs.Range.{all-zero}
use Rattle.theory.proofs.Lists.{part_length}
use Rattle.tables.proofs.Signed.{joined_next}
use Rattle.tables.proofs.places.all_zero.Goals as goal

pub loop-z-init : goal.loop-z-init
loop-z-init c = sym (all-zero _)

pub loop-z-preserved : goal.loop-z-preserved
loop-z-preserved c =
    let a = c.args in
    let l = c.loop-z in
    joined_next a.b.now a.from a.count l.z-index l.joined-bits (search rules) l.auto.joined (omega (arith, part_length a.b.now a.from a.count c.requires)) l.invariant

pub returns : goal.returns
returns c =
    let a = c.args in
    let e : c.loop-z.z-index ≡ a.count = omega (arith, part_length a.b.now a.from a.count c.requires) in
    rw (e, of_z-to_z c.loop-z.auto.joined) at c.loop-z.invariant
