-- What rows of sums and the walk ask of a shape and its costs, the study of a block has, and so has every listing of it.
use mathlib.Core.Bool.{Bool, true, false, cond}
use mathlib.Core.List.{List}
use Prim.Native.Nat.{ℕ, ◌<◌, ◌≤◌}
use native.Mathlib.Omega.{arith}
use lib.IntN.{ℤ}
use Rattle.tables.specs.Block.{max_trains, max_choices, max_parts, pairs}
use Rattle.tables.specs.WellFormed.{Study}
use Rattle.theory.specs.Order.{IsOrder}
use Rattle.theory.proofs.Order.{order_below}
use Rattle.tables.specs.Plans.{Shape, Costs, shape_of, held_costs}
use Rattle.tables.proofs.Study.{trains_range, pairs_range, constant_range, size_range, held_choice_high, held_entry_high}
use Rattle.tables.proofs.Plans.{Shaped, study_shaped}
use Rattle.orders.specs.Ordered.{turned, ordered_shape, ordered_costs}
use Rattle.orders.specs.Listed.{renumbered, renumbered_costs}
use Rattle.orders.proofs.Ordered.{ordered_shaped}
use Rattle.orders.proofs.Listed.{listed_shaped}
use Rattle.rows.specs.declared.listing.Listing.{Listing}
use Rattle.rows.specs.Walled.{wall, walled_costs}
use Rattle.rows.specs.Listing.{numbers_of, shape_in, costs_in}
use Rattle.rows.specs.Limits.{Walkable, Limited}
use Rattle.rows.proofs.Walled.{walled_choice_low, walled_entry_low}

-- a shape whose trains find room
pub shaped_walkable : {s : Shape} → Shaped s → s.trains ≤ max_trains → Walkable s
shaped_walkable o h = record { room = h; filled = o.filled; ascends = o.ascends; inside = o.inside }

module _ {b : List ℤ} (s : Study b) where
  -- the study's shape,
  pub study_walkable : Walkable (shape_of b)
  study_walkable = shaped_walkable (study_shaped s) (trains_range s).1

  -- with the costs of T,
  pub study_limited : Limited (shape_of b) (held_costs b) max_parts
  unfolding held_costs
  study_limited =
      record {
        constant = constant_range s;
        sizes = λ i h. (size_range s i h).1;
        pairs = pairs_range s;
        choice = λ i a h q. held_choice_high s i a (omega (arith, trains_range s)) q;
        entry = λ k a e h q r. held_entry_high s k a e (omega (arith, pairs_range s)) q r;
      }

  -- and with the wall for what is forbidden
  pub walled_limited : Limited (shape_of b) (walled_costs b) wall
  unfolding walled_costs
  walled_limited =
      record {
        constant = omega (arith, constant_range s);
        sizes = λ i h. (size_range s i h).1;
        pairs = pairs_range s;
        choice = λ i a h q. walled_choice_low s i a (omega (arith, trains_range s)) q;
        entry = λ k a e h q r. walled_entry_low s k a e (omega (arith, pairs_range s)) q r;
      }

-- ---- trains in an order, and pairs in a list

pub ordered_limited : {s : Shape} {order : ℕ → ℕ} → IsOrder s.trains order → {c : Costs} {most : ℕ} → Limited s c most → Limited (ordered_shape order s) (ordered_costs order s c) most
ordered_limited {s} {order} is {c} {most} low =
    record {
      constant = low.constant;
      sizes = λ i h. low.sizes (order i) (order_below is i h);
      pairs = low.pairs;
      choice = λ i a h q. low.choice (order i) a (order_below is i h) q;
      entry = λ k a e h q r. by k a e (turned order s k) (low.entry k e a h r q) (low.entry k a e h q r);
    }
  where
    by : (k a e : ℕ) (t : Bool) → c.pair k e a ≤ most → c.pair k a e ≤ most → cond t (c.pair k e a) (c.pair k a e) ≤ most
    by k a e true p q = p
    by k a e false p q = q

pub renumbered_limited : {s : Shape} {q : ℕ → ℕ} → IsOrder s.pairs q → {c : Costs} {most : ℕ} → Limited s c most → Limited (renumbered q s) (renumbered_costs q c) most
renumbered_limited {q = q} is low =
    record { constant = low.constant; sizes = low.sizes; pairs = low.pairs; choice = low.choice; entry = λ k a e h p r. low.entry (q k) a e (order_below is k h) p r }

-- ---- a listing

pub listing_walkable : (l : Listing) → Walkable (shape_in l)
listing_walkable l =
    let s = l.ordered.study.held in
    shaped_walkable (listed_shaped (ordered_shape _ (shape_of (numbers_of l))) l.sorted (ordered_shaped l.ordered.once (study_shaped s))) (trains_range s).1

pub listing_limited : (l : Listing) → Limited (shape_in l) (costs_in l) wall
listing_limited l = renumbered_limited l.sorted.once (ordered_limited l.ordered.once (walled_limited l.ordered.study.held))

-- a pair has a row for each of at most eight choices
pub listing_few : (l : Listing) (k : ℕ) → k < pairs (numbers_of l) → (shape_in l).size ((shape_in l).first k) ≤ max_choices
listing_few l k h = (listing_limited l).sizes _ (omega (arith, (listing_walkable l).ascends k h, (listing_walkable l).inside k h))
