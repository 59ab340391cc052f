-- Each train has a choice, and it is below the train's size.
use native.Mathlib.Omega.{arith}
use Rattle.records.proofs.Costs.{choice_there}
use Rattle.records.proofs.HeldChoices.choice.Goals as goal

pub offset_bounds-self-i : goal.offset_bounds-self-i
offset_bounds-self-i c = let s = c.args.self in omega (arith, choice_there s.study.held s.choices.now s.held c.args.i c.requires)

pub bounds-self-i : goal.bounds-self-i
bounds-self-i c = let s = c.args.self in (choice_there s.study.held s.choices.now s.held c.args.i c.requires).0

pub returns-clause-small : goal.returns-clause-small
returns-clause-small c = let s = c.args.self in (choice_there s.study.held s.choices.now s.held c.args.i c.requires).1.1
