-- A total below the wall is a known one, and its plan is shown with it.
use Rattle.std.proofs.Common.{◌≡◌, ap}
use borrow.Author.Tests.{lt-ltb, le-ltb}
use Rattle.units.specs.Units.{the_parts}
use Rattle.search.specs.Held.{walk_of}
use Rattle.search.proofs.answer.best_plan.Goals as goal

pub returns-then-best-ge-UNKNOWN : goal.returns-then-best-ge-UNKNOWN
unfolding walk_of
returns-then-best-ge-UNKNOWN c budget left = rw (le-ltb _ _ c.if-best-ge-UNKNOWN.true)

pub returns : goal.returns
unfolding walk_of
returns c budget left =
    let e : c.from-total.result ≡ the_parts c.args.best.now.to_beat = ap the_parts c.from-total.ensures in
    rw (c.cost_of.ensures, e, lt-ltb _ _ c.if-best-ge-UNKNOWN.false)
