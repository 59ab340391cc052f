-- No sum of an entry and a choice is above 2 × L, so no least of them is.
use Rattle.reasons.proofs.Found.{found_room}
use Rattle.reasons.proofs.lane.Lane.least.Goals as goal

pub returns-clause-bound : goal.returns-clause-bound
returns-clause-bound c =
    let l = c.args.self in
    rw c.loop-c.invariant (found_room l.study.held c.loop-c.c l.side l.pair l.choice)
