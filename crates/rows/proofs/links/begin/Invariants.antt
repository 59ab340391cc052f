-- Every pair passed so far begins before t; first trains ascend with the pairs, so all from the stop on begin at t or later.
use Prim.Native.Nat.{ℕ, ◌<◌}
use Rattle.rows.specs.Listing.{shape_in}
use Rattle.rows.proofs.links.begin.Given as goal

abbrev pub invariant-loop-l : goal.invariant-loop-l
invariant-loop-l l = (i : ℕ) → i < l.l → (shape_in l.listing).first i < l.t
