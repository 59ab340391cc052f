-- 'as many choices as any study of those sizes .. can cause': no walk counts more tries than the sizes give in the order of the walk, whatever the budget, the costs, what is forbidden and the bound that ends it.
-- With a budget for all tries the law that they fit says so; with less, the count is within the budget.
use mathlib.Core.Path.{◌≡◌, refl, ap}
use mathlib.Core.Bool.{Bool}
use mathlib.Core.List.{List}
use mathlib.Core.Logic.{dite}
use Prim.Native.Nat.{ℕ, ◌<◌, ◌≤◌}
use native.Mathlib.Decide.{dec_lt}
use native.Mathlib.Omega.{arith}
use lib.IntN.{ℤ}
use Rattle.theory.specs.Order.{IsOrder}
use Rattle.theory.specs.Tries.{tries_of}
use Rattle.theory.proofs.Tries.{tries_of_cong}
use Rattle.tables.specs.Block.{trains, size, order}
use Rattle.tables.specs.WellFormed.{Study}
use Rattle.tables.specs.Plans.{Shape, Costs}
use Rattle.rows.specs.Limits.{Walkable}
use Rattle.search.specs.Walk.{no_choices, nothing_tried, walked, all_tries, at_bound}
use Rattle.search.specs.Ordered.{walked_in, searched_in, searched}
use Rattle.search.specs.Answer.{search_answer}
use Rattle.search.proofs.Budget.{opened_ends}
use Rattle.search.proofs.Theorems.{walk_count, place_costs, place_walkable, order_is}

pub walk_tries : {s : Shape} (o : Walkable s) (c : Costs) (meets : ℕ → Bool) (budget : ℕ) → (walked s c meets budget).count ≤ all_tries s
unfolding walked
walk_tries {s} o c meets budget =
    dite (dec_lt budget (all_tries s))
    (λ (q : budget < all_tries s). omega (arith, walk_count o c meets budget))
    (λ q. omega (arith, (opened_ends budget s c meets s.trains 0 c.constant no_choices nothing_tried refl (omega arith)).tries))

module _ {b : List ℤ} (s : Study b) where
  -- the search of a block with its trains in an order
  pub ordered_tries : {order : ℕ → ℕ} → IsOrder (trains b) order → (budget : ℕ) → (searched_in order b budget).count ≤ tries_of (trains b) (λ d. size b (order d))
  unfolding walked_in searched_in
  ordered_tries {order} is budget = walk_tries (place_walkable s is) (place_costs order b) (at_bound b) budget

  -- in the block's order
  pub search_tries : (budget : ℕ) → (searched b budget).count ≤ tries_of (trains b) (λ d. size b (order b d))
  unfolding searched
  search_tries = ordered_tries (order_is s)

  -- 'searched in loaded order'
  pub loaded_tries : ((d : ℕ) → d < trains b → order b d ≡ d) → (budget : ℕ) → (searched b budget).count ≤ tries_of (trains b) (size b)
  loaded_tries own budget = omega (arith, search_tries budget, tries_of_cong (trains b) (λ d. size b (order b d)) (size b) (λ d h. ap (size b) (own d h)))

  -- the count that is answered
  pub answer_tries : ((d : ℕ) → d < trains b → order b d ≡ d) → (budget : ℕ) → (search_answer b budget).count ≤ tries_of (trains b) (size b)
  unfolding search_answer
  answer_tries own budget = omega (arith, loaded_tries own budget)
