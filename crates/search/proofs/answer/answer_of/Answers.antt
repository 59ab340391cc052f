-- The walk is spent where nothing is left, and else the tries counted are those of the budget that are not left.
use Rattle.search.specs.Held.{walk_of}
use Rattle.search.proofs.answer.answer_of.Goals as goal

pub returns : goal.returns
unfolding walk_of
returns c = rw (c.saturating_sub.ensures, c.best_plan.ensures c.args.budget c.args.left)
