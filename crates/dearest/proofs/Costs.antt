-- How many choices the first trains have at most, and what a loop that lists the costs asks.
use mathlib.Core.List.{List}
use Prim.Native.Nat.{ℕ, ◌*◌, ◌≤◌}
use native.Mathlib.Omega.{arith}
use lib.ListN.{length}
use Rattle.theory.specs.Sum.{sum}
use Rattle.theory.specs.Lists.{nth}
use Rattle.theory.proofs.Sum.{sum_most}
use Rattle.theory.proofs.Lists.{list_length}
use Rattle.tables.specs.Block.{max_trains, max_choices}
use Rattle.operations.proofs.Grown.{list_begun, list_turn}
use Rattle.dearest.specs.Dearest.{SizesRight}

pub choices_most : {sizes : List ℕ} → SizesRight sizes → (i : ℕ) → i ≤ length sizes → sum i (nth sizes) ≤ max_choices * max_trains
choices_most {sizes} r i h = omega (arith, sum_most i max_choices (nth sizes) (λ j q. (r.each j (omega arith)).1), r.trains)

pub ruleset listing = (choices_most, list_begun, list_turn, list_length)
