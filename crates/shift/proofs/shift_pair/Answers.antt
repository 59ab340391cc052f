-- The rows, then the columns: of the same sizes, since a chain of moves keeps the shape.
use Rattle.std.proofs.Common.{arith}
use Rattle.shift.proofs.Rooms.{columns_asked, columns_kept}
use Rattle.shift.proofs.shift_pair.Goals as goal

pub shift_lanes-requires-2 : goal.shift_lanes-requires-2
shift_lanes-requires-2 c =
    let a = c.args in
    let r = c.requires.shape_in_range in record {
      shape_in_range = rw c.shift_lanes.ensures (columns_asked r.0 a.moves.small a.start a.k r.2 r.1);
      k_in_bounds = omega (arith, c.lanes-rows.ensures, columns_kept r.0 a.moves.small a.start a.k r.2 c.shift_lanes.ensures);
    }
