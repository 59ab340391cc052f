-- The trains are lifted, then the pairs are shifted, which keeps the shape and goes not far from 0.
use Rattle.rewriting.proofs.Shape.{study_shape_in_range, study_room}
use Rattle.shift.specs.Shift.{shifted}
use Rattle.shift.proofs.Rooms.{pairs_asked}
use Rattle.shift.proofs.fn.shift.attempt.Goals as goal

pub lift_trains-requires : goal.lift_trains-requires
lift_trains-requires c = let s = c.requires.study in rw c.known.ensures (study_shape_in_range s.0, study_room s.0, s.1)

pub shift_pairs-requires : goal.shift_pairs-requires
shift_pairs-requires c =
    let s = c.requires.study in
    rw (c.lift_trains.ensures, c.known.ensures, c.known-2.ensures) (pairs_asked (study_shape_in_range s.0) c.requires.small.0 _ (study_room s.0) s.2)

pub returns : goal.returns
unfolding shifted
returns c = rw (← c.known.ensures, ← c.known-2.ensures, ← c.lift_trains.ensures) c.shift_pairs.ensures
