-- Document 02, change 10: the shape and the costs that the table of a listing is laid for.
use Rattle.std.specs.Prelude.{List, ℤ}
use Rattle.theory.specs.Lists.{nth}
use Rattle.tables.specs.Plans.{Shape, Costs, shape_of}
use Rattle.orders.specs.Ordered.{ordered_shape, ordered_costs}
use Rattle.orders.specs.Listed.{renumbered, renumbered_costs}
use Rattle.rows.specs.declared.listing.Listing.{Listing}
use Rattle.rows.specs.Walled.{walled_costs}

-- the numbers of its study
abbrev pub numbers_of : Listing → List ℤ
numbers_of l = l.ordered.study.numbers.now

-- its trains by places, and its pairs as they stand in the list
abbrev pub shape_in : Listing → Shape
shape_in l = renumbered (nth l.list) (ordered_shape (nth l.ordered.order) (shape_of (numbers_of l)))

-- T so, with the wall for what is forbidden
abbrev pub costs_in : Listing → Costs
costs_in l = renumbered_costs (nth l.list) (ordered_costs (nth l.ordered.order) (shape_of (numbers_of l)) (walled_costs (numbers_of l)))
