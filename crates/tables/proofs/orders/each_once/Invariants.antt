use lib.ListN.{length}
use Rattle.theory.specs.Lists.{nth}
use Rattle.tables.proofs.Order.{Counted}
use Rattle.tables.proofs.orders.each_once.Given as goal

abbrev pub invariant-loop-d : goal.invariant-loop-d
invariant-loop-d l = Counted (length l.order) (nth l.order) l.d l.times
