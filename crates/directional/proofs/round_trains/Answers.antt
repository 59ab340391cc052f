-- The turns that are left give the round that was asked for, and what is carried from turn to turn keeps the block ready for the next.
use Rattle.std.proofs.Common.{arith}
use Rattle.directional.proofs.Ends.{directed_turn, round_asked, round_kept}
use Rattle.directional.proofs.round_trains.Goals as goal

pub round_train-requires : goal.round_train-requires
round_train-requires c = let l = c.loop-j in round_asked c.requires l.j l.b (omega arith) (omega arith) l.invariant.1

pub loop-j-preserved : goal.loop-j-preserved
loop-j-preserved c =
    let l = c.loop-j in
    let e = c.round_train.ensures in
    (directed_turn l.j c.args.b.now l.b (omega arith) l.invariant.0 e, rw e (round_kept c.requires l.j l.b (omega arith) (omega arith) l.invariant.1))
