-- The pairs are tightened, then the trains. Between the two no open number is below 0, and none is far from 0.
use Rattle.rewriting.proofs.Shape.{study_shape_in_range, study_room}
use Rattle.rewriting.proofs.Opens.{study_non_negative}
use Rattle.tighten.specs.Tighten.{tightened}
use Rattle.tighten.proofs.Folds.{trains_asked}
use Rattle.tighten.proofs.fn.tighten.attempt.Goals as goal

pub tighten_pairs-requires : goal.tighten_pairs-requires
tighten_pairs-requires c = (study_shape_in_range c.requires, study_non_negative c.requires, study_room c.requires)

pub tighten_trains-requires : goal.tighten_trains-requires
tighten_trains-requires c =
    rw c.tighten_pairs.ensures (trains_asked (study_shape_in_range c.requires) (study_non_negative c.requires) (study_room c.requires))

pub returns : goal.returns
unfolding tightened
returns c = rw (← c.tighten_pairs.ensures) c.tighten_trains.ensures
