-- Totals fit a number of 64 bits: where no cost is above a limit, no train adds more than that limit for its choice and for each pair.
use mathlib.Core.Path.{◌≡◌}
use mathlib.Core.List.{List}
use mathlib.Core.Logic.{dite}
use Prim.Native.Nat.{ℕ, ◌+◌, ◌*◌, ◌^◌, ◌<◌, ◌≤◌}
use native.Mathlib.Nat.{mul-le-mul_right}
use native.Mathlib.Decide.{ℕ_discrete}
use native.Mathlib.Omega.{arith}
use lib.ListN.{length, set}
use borrow.Author.Tests.{eq-eqb, ne_eqb}
use Rattle.theory.proofs.Sum.{sum_most}
use Rattle.tables.specs.Block.{max_choices, max_pairs, max_parts}
use Rattle.tables.specs.Plans.{Shape, Costs, choices_of}
use Rattle.rows.specs.Walled.{wall}
use Rattle.rows.specs.Limits.{Walkable, Limited}
use Rattle.rows.proofs.Written.{written}
use Rattle.search.specs.Walk.{pair_added, added, partial_total, Decided}

-- the most that a train adds: its choice's cost, and one of each pair
abbrev pub most_added : ℕ → ℕ
most_added most = most + max_pairs * most

module _ {s : Shape} (o : Walkable s) where
  added_low : {c : Costs} {most : ℕ} → Limited s c most → (x : ℕ → ℕ) (t : ℕ) → t < s.trains → ((i : ℕ) → i < t + 1 → x i < max_choices) → added s c x t ≤ most_added most
  unfolding added
  added_low {c} {most} low x t h within =
      omega (
        arith,
        low.choice t (x t) h (within t (omega arith)),
        sum_most s.pairs most (pair_added s c x t) at_pair,
        mul-le-mul_right most low.pairs,
      )
    where
      at_pair : (k : ℕ) → k < s.pairs → pair_added s c x t k ≤ most
      at_pair k q =
          dite (ℕ_discrete (s.second k) t)
          (λ (e : s.second k ≡ t). rw (eq-eqb (s.second k) t e)
          (low.entry k _ _ q (within (s.first k) (omega (arith, o.ascends k q))) (within (s.second k) (omega arith))))
          (λ n. rw (ne_eqb (s.second k) t n) (omega arith))

  module _ {c : Costs} (low : Limited s c max_parts) where
    pub decided_low : (t partial : ℕ) (chosen : List ℕ) → t ≤ s.trains → Decided s c t partial chosen → partial ≤ max_parts + t * most_added max_parts
    unfolding partial_total
    decided_low t partial chosen h d =
        omega (
          arith,
          d.total,
          low.constant,
          sum_most t (most_added max_parts) (added s c (choices_of chosen))
              (λ i q. added_low low (choices_of chosen) i (omega arith) (λ j r. omega (arith, d.below j (omega arith), low.sizes j (omega arith)))),
        )

    -- so that no total reaches the wall
    pub decided_below : (t partial : ℕ) (chosen : List ℕ) → t ≤ s.trains → Decided s c t partial chosen → partial < wall
    decided_below t partial chosen h d = omega (arith, o.room, decided_low t partial chosen h d)

    -- a partial total with what any of eight choices adds fits too, also past the train's last, and with a wall for each forbidden entry
    pub comes_low : {u : Costs} → Limited s u wall → (t a partial : ℕ) (chosen : List ℕ) → t < s.trains → a < max_choices → Decided s c t partial chosen
        → partial + added s u (choices_of (set chosen t a)) t < 2 ^ 63
    comes_low high t a partial chosen h q d =
        let l : t < length chosen = omega (arith, d.whole, o.room) in
        omega (
          arith,
          decided_below t partial chosen (omega arith) d,
          added_low high (choices_of (set chosen t a)) t h
              (written (λ i v. v < max_choices) chosen t a l (λ i r. omega (arith, d.below i r, low.sizes i (omega arith))) q),
        )
