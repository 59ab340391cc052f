-- What is found so far is the least over the partner's first choices, and each turn takes in one more.
use Rattle.std.proofs.Common.{◌≡◌}
use Rattle.tables.specs.Plans.{shape_of, held_costs}
use Rattle.rewriting.specs.Leasts.{found_of}
use Rattle.reasons.specs.Reasons.{both_open, partner_cost}
use Rattle.reasons.proofs.lane.Lane.least.Given as goal

abbrev pub invariant-loop-c : goal.invariant-loop-c
invariant-loop-c l =
    let b = l.self.study.numbers.now in
    l.least ≡ found_of l.c (both_open (shape_of b) l.self.side l.self.pair l.self.choice) (partner_cost (shape_of b) (held_costs b) l.self.side l.self.pair l.self.choice)
