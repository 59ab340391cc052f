-- What a plan costs, by its parts, and how much at most: each cost is at most 1,000,000, so that 24 choices and 48 pairs come to at most 72,000,000.
use mathlib.Core.Path.{◌≡◌, refl, sym, ap, ◌∙◌}
use mathlib.Core.Bool.{Bool, true, false, ◌&&◌}
use mathlib.Core.List.{List}
use Prim.Native.Nat.{ℕ, ◌+◌, ◌*◌, ◌<◌, ◌≤◌}
use native.Mathlib.Omega.{arith}
use lib.IntN.{ℤ}
use lib.ListN.{length}
use Rattle.std.specs.Prelude.{Option, Some, None}
use Rattle.theory.specs.Sum.{sum}
use Rattle.theory.specs.Range.{all}
use Rattle.theory.specs.Lists.{nth}
use Rattle.theory.proofs.Range.{all-zero, all_more, all_false}
use Rattle.theory.proofs.Sum.{sum_none, sum_more, sum_most}
use Rattle.units.specs.declared.Points.{Points}
use Rattle.tables.specs.Block.{max_trains, max_choices, max_pairs, max_cost, trains, pairs, size, first, second, loaded_choice, loaded_entry}
use Rattle.tables.specs.WellFormed.{Study}
use Rattle.tables.specs.Plans.{choices_held, plan_open, choice_total, pair_total, total, shape_of, loaded_costs, loaded_total}
use Rattle.tables.proofs.Held.{held_trains, held_below}
use Rattle.tables.proofs.Study.{trains_range, pairs_range, size_range, first-below-trains, second-below-trains, loaded_choice_range, loaded_entry_range}
use Rattle.records.specs.Records.{plan_cost}
use Rattle.records.specs.Parts.{points_if}

-- ---- what an answer says

pub points_given : (t : Bool) (v : ℕ) {p : Points} → points_if t v ≡ Some p → (t ≡ true) × (p.0 ≡ v)
points_given true v e = (refl, cc)
points_given false v e = let z : ◌≡◌ {A = ℕ} 0 1 = cc in absurd (omega arith)

pub points_none : (t : Bool) (v : ℕ) → points_if t v ≡ None → t ≡ false
points_none true v e = let z : ◌≡◌ {A = ℕ} 0 1 = cc in absurd (omega arith)
points_none false v e = refl

-- of a sum: the first part that is not there
pub no_points : (p : ℕ → Bool) (f : ℕ → ℕ) {r : Option Points} (n k : ℕ) → k < n → r ≡ points_if (p k) (f k) → r ≡ None → points_if (all n p) (sum n f) ≡ None
no_points p f n k h g e = rw (all_false p n k h (points_none (p k) (f k) (sym g ∙ e)))

module _ (b : List ℤ) (x : ℕ → ℕ) where
  pub cost_some : {p : Points} → plan_cost b x ≡ Some p → (plan_open (shape_of b) x ≡ true) × (p.0 ≡ loaded_total b x)
  unfolding plan_cost
  cost_some e = points_given (plan_open (shape_of b) x) (loaded_total b x) e

  pub cost_none : plan_cost b x ≡ None → plan_open (shape_of b) x ≡ false
  unfolding plan_cost
  cost_none e = points_none (plan_open (shape_of b) x) (loaded_total b x) e

  -- a plan's cost by its choices and its pairs
  pub cost_parts : plan_cost b x
      ≡ points_if
      (all (trains b) (λ i. (shape_of b).choice_open i (x i)) && all (pairs b) (λ k. (shape_of b).entry_open k (x (first b k)) (x (second b k))))
      (sum (trains b) (λ i. loaded_choice b i (x i)) + sum (pairs b) (λ k. loaded_entry b k (x (first b k)) (x (second b k))))
  unfolding plan_cost plan_open total choice_total pair_total loaded_costs
  cost_parts = ap (points_if (plan_open (shape_of b) x)) (omega arith)

-- ---- how much at most

module _ {b : List ℤ} (s : Study b) where
  module _ (x : ℕ → ℕ) (below : (i : ℕ) → i < trains b → x i < size b i) where
    choices_most : (n : ℕ) → n ≤ trains b → sum n (λ i. loaded_choice b i (x i)) ≤ n * max_cost
    choices_most n h =
        sum_most n max_cost (λ i. loaded_choice b i (x i)) (λ i q. (loaded_choice_range s i (x i) (omega arith) (below i (omega arith))).high)

    pairs_most : (n : ℕ) → n ≤ pairs b → sum n (λ k. loaded_entry b k (x (first b k)) (x (second b k))) ≤ n * max_cost
    pairs_most n h =
        sum_most n max_cost (λ k. loaded_entry b k (x (first b k)) (x (second b k)))
        (λ k q.
        let r : k < pairs b = omega arith in
        (loaded_entry_range s k r (x (first b k)) (x (second b k)) (below (first b k) (first-below-trains s k r)) (below (second b k) (second-below-trains s k r))).high)

    -- whatever is forbidden
    pub cost_most : loaded_total b x ≤ (max_trains + max_pairs) * max_cost
    unfolding total choice_total pair_total loaded_costs
    cost_most = omega (arith, choices_most (trains b) (omega arith), pairs_most (pairs b) (omega arith), trains_range s, pairs_range s)

  -- where the code reads and sums
  module _ (l : List ℕ) (h : choices_held (shape_of b) (length l) (nth l) ≡ true) where
    below : (i : ℕ) → i < trains b → nth l i < size b i
    below i q = held_below (shape_of b) (length l) (nth l) h i (omega (arith, held_trains (shape_of b) (length l) (nth l) h))

    pub choice_there : (i : ℕ) → i < trains b → (i < length l) × ((i < max_trains) × (nth l i < max_choices))
    choice_there i q = omega (arith, held_trains (shape_of b) (length l) (nth l) h, trains_range s, below i q, size_range s i q)

    pub choices_next : (i : ℕ) → i < trains b → sum i (λ j. loaded_choice b j (nth l j)) + loaded_choice b i (nth l i) ≤ max_trains * max_cost
    choices_next i q =
        omega (
          arith,
          choices_most (nth l) below (i + 1) (omega arith),
          sum_more i (λ j. loaded_choice b j (nth l j)),
          trains_range s,
        )

    pub pairs_next : (k : ℕ) → k < pairs b
        → sum k (λ j. loaded_entry b j (nth l (first b j)) (nth l (second b j))) + loaded_entry b k (nth l (first b k)) (nth l (second b k)) ≤ max_pairs * max_cost
    pairs_next k q =
        omega (
          arith,
          pairs_most (nth l) below (k + 1) (omega arith),
          sum_more k (λ j. loaded_entry b j (nth l (first b j)) (nth l (second b j))),
          pairs_range s,
        )

    pub parts_most : sum (trains b) (λ i. loaded_choice b i (nth l i)) + sum (pairs b) (λ k. loaded_entry b k (nth l (first b k)) (nth l (second b k)))
        ≤ (max_trains + max_pairs) * max_cost
    parts_most =
        omega (arith, choices_most (nth l) below (trains b) (omega arith), pairs_most (nth l) below (pairs b) (omega arith), trains_range s, pairs_range s)

-- ---- what each function needs, for `grind`

pub ruleset parts = (sum_none, sum_more, all-zero, all_more, points_given)

pub ruleset whole = (points_given, points_none, cost_parts)
