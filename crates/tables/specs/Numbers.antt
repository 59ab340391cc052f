-- Document 01, '01 load': the numbers of a study, as a load gives them.
use Rattle.std.specs.Prelude.{◌≡◌, Bool, true, cond, not, ◌||◌, List, ℕ, ◌+◌, ◌<◌, ◌≤◌, leb, eqb, ℤ, pos, negsuc, length}
use Rattle.theory.specs.Lists.{nth}
use Rattle.units.specs.Units.{scale_min, scale_max}
use Rattle.tables.specs.Block.{max_trains, max_choices, max_pairs, max_cost}
use Rattle.tables.specs.WellFormed.{before}
use Rattle.tables.specs.Plans.{Shape, Costs}
use Rattle.tables.specs.Counts.{choice_count, entry_count, choice_index, entry_index}

-- the numbers of a load, in the line's order: sizes by train, 'choice costs by train then choice', then of each pair its i, its j, and its costs, 'a outer, b inner'
pub record Numbers : Type 0 where
  pub scale : ℕ
  pub sizes : List ℕ
  pub choices : List ℕ
  pub firsts : List ℕ
  pub seconds : List ℕ
  pub entries : List ℕ

abbrev pub numbers : ℕ → List ℕ → List ℕ → List ℕ → List ℕ → List ℕ → Numbers
numbers s sizes choices firsts seconds entries = record { scale = s; sizes = sizes; choices = choices; firsts = firsts; seconds = seconds; entries = entries }

-- ---- costs, and what is forbidden

-- 'A choice or pair of choices can be forbidden. FFFFFF in a load means so'
abbrev pub forbidden_cost : ℕ
forbidden_cost = 16777215

-- what a load may give as a cost: 0 to 1,000,000, or FFFFFF
unfoldable pub is_cost : ℕ → Bool
is_cost c = leb c max_cost || eqb c forbidden_cost

-- the cost is not that of a forbidden entry
unfoldable pub permits : ℕ → Bool
permits c = not (eqb c forbidden_cost)

-- 'H and T hold −1': what a place holds for the cost c whose value there is v. H holds `priced c c`, and T `priced c (s * c)`
unfoldable pub priced : ℕ → ℕ → ℤ
priced c v = cond (permits c) (pos v) (negsuc 0)

-- the cost in points, 0 where it is that of a forbidden entry
unfoldable pub paid : ℕ → ℕ
paid c = cond (permits c) c 0

-- ---- the study that they give

-- the shape that lists of sizes and of the pairs' trains give, with nothing forbidden: counts ask for no more
abbrev pub list_shape : List ℕ → List ℕ → List ℕ → Shape
list_shape sizes firsts seconds =
    record {
      trains = length sizes;
      size = nth sizes;
      pairs = length firsts;
      first = nth firsts;
      second = nth seconds;
      choice_open = λ i a. true;
      entry_open = λ k a c. true;
    }

-- the cost that a load gives for a choice, and for the two choices of a pair
abbrev pub choice_given : Numbers → ℕ → ℕ → ℕ
choice_given l i a = nth l.choices (choice_index (list_shape l.sizes l.firsts l.seconds) i a)

abbrev pub entry_given : Numbers → ℕ → ℕ → ℕ → ℕ
entry_given l k a c = nth l.entries (entry_index (list_shape l.sizes l.firsts l.seconds) k a c)

-- the shape that the numbers of a load give: 'FFFFFF in a load means' forbidden
abbrev pub numbers_shape : Numbers → Shape
numbers_shape l =
    record {
      trains = length l.sizes;
      size = nth l.sizes;
      pairs = length l.firsts;
      first = nth l.firsts;
      second = nth l.seconds;
      choice_open = λ i a. permits (choice_given l i a);
      entry_open = λ k a c. permits (entry_given l k a c);
    }

-- the costs, 'in points', with 'no constant'; of a forbidden entry 0
abbrev pub numbers_costs : Numbers → Costs
numbers_costs l = record { constant = 0; choice = λ i a. paid (choice_given l i a); pair = λ k a c. paid (entry_given l k a c) }

-- the numbers are as many as the sizes say, and within the ranges of document 01
pub record InRange (l : Numbers) : Type 0 where
  pub trains : (1 ≤ length l.sizes) × (length l.sizes ≤ max_trains)
  pub scale : (scale_min ≤ l.scale) × (l.scale ≤ scale_max)
  pub pairs : (length l.firsts ≤ max_pairs) × (length l.seconds ≡ length l.firsts)
  pub sizes : (i : ℕ) → i < length l.sizes → (1 ≤ nth l.sizes i) × (nth l.sizes i ≤ max_choices)
  pub choices : length l.choices ≡ choice_count (numbers_shape l)
  pub entries : length l.entries ≡ entry_count (numbers_shape l)
  pub choice_costs : (o : ℕ) → is_cost (nth l.choices o) ≡ true
  pub entry_costs : (o : ℕ) → is_cost (nth l.entries o) ≡ true
  pub below : (k : ℕ) → k < length l.firsts → (nth l.firsts k < nth l.seconds k) × (nth l.seconds k < length l.sizes)
  pub ascending : (k : ℕ) → k + 1 < length l.firsts
      → before (nth l.firsts k) (nth l.seconds k) (nth l.firsts (k + 1)) (nth l.seconds (k + 1)) ≡ true
