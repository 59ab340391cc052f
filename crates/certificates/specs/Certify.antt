-- Document 01, '05 certify': weights, their sums, E and whether the ceiling is reached.
use Rattle.std.specs.Prelude.{◌≡◌, Bool, cond, ◌&&◌, ◌||◌, List, ℕ, ◌+◌, ◌*◌, ◌^◌, ◌<◌, eqb, ℤ, length, get_or, Result, Ok, Err}
use Rattle.theory.specs.Sum.{sum}
use Rattle.theory.specs.Range.{all}
use Rattle.tables.specs.Block.{constant}
use Rattle.tables.specs.Plans.{Shape, Costs, shape_of, held_costs}
use Rattle.tables.specs.Counts.{choice_count, weight_count, choice_index, entry_index}
use Rattle.refusals.specs.declared.Refusal.{Refusal}
use Rattle.refusals.specs.declared.Refusal.TheVariants.{Sums, ForbiddenWeight}
use Rattle.certificates.specs.declared.certify.Ceiling.{Ceiling}

-- '(3 each)': what is above each weight of a line
abbrev pub weights_below : ℕ
weights_below = 2 ^ 24

-- 'W (3), weights w_i(a), weights z_ij(a,b)'
pub record Weights : Type 0 where
  pub full_weight : ℕ
  pub choice : ℕ → ℕ → ℕ
  pub pair : ℕ → ℕ → ℕ → ℕ

-- 'Each train's w sum to W'
unfoldable pub train_balanced : Shape → Weights → ℕ → Bool
train_balanced s w i = eqb (sum (s.size i) (λ a. w.choice i a)) w.full_weight

-- 'Each row of z sums to w_i(a)'
unfoldable pub row_balanced : Shape → Weights → ℕ → ℕ → Bool
row_balanced s w k a = eqb (sum (s.size (s.second k)) (λ c. w.pair k a c)) (w.choice (s.first k) a)

-- 'each column to w_j(b)'
unfoldable pub column_balanced : Shape → Weights → ℕ → ℕ → Bool
column_balanced s w k c = eqb (sum (s.size (s.first k)) (λ a. w.pair k a c)) (w.choice (s.second k) c)

unfoldable pub pair_balanced : Shape → Weights → ℕ → Bool
pair_balanced s w k = all (s.size (s.first k)) (row_balanced s w k) && all (s.size (s.second k)) (column_balanced s w k)

-- the weights' sums agree; else 14
unfoldable pub balanced : Shape → Weights → Bool
balanced s w = all s.trains (train_balanced s w) && all s.pairs (pair_balanced s w)

-- 'a weight above 0 on a forbidden entry' is none: an entry is open, or its weight is 0
unfoldable pub choice_spared : Shape → Weights → ℕ → ℕ → Bool
choice_spared s w i a = s.choice_open i a || eqb (w.choice i a) 0

unfoldable pub entry_spared : Shape → Weights → ℕ → ℕ → ℕ → Bool
entry_spared s w k a c = s.entry_open k a c || eqb (w.pair k a c) 0

-- all are spared; else 18
unfoldable pub spared : Shape → Weights → Bool
spared s w =
    all s.trains (λ i. all (s.size i) (choice_spared s w i))
    && all s.pairs (λ k. all (s.size (s.first k)) (λ a. all (s.size (s.second k)) (entry_spared s w k a)))

-- 'sum of w × c_i' and 'sum of z × c_ij'
unfoldable pub over_choices : Shape → Weights → (ℕ → ℕ → ℕ) → ℕ
over_choices s w f = sum s.trains (λ i. sum (s.size i) (λ a. w.choice i a * f i a))

unfoldable pub over_pairs : Shape → Weights → (ℕ → ℕ → ℕ → ℕ) → ℕ
over_pairs s w f = sum s.pairs (λ k. sum (s.size (s.first k)) (λ a. sum (s.size (s.second k)) (λ c. w.pair k a c * f k a c)))

-- 'E = W × c0 + sum of w × c_i + sum of z × c_ij'
unfoldable pub weighted : Shape → Weights → Costs → ℕ
weighted s w t = w.full_weight * t.constant + over_choices s w t.choice + over_pairs s w t.pair

-- the weights of a line, 'ordered as in a load': all w, then all z
abbrev pub weights_of : List ℤ → ℕ → List ℕ → Weights
weights_of b full_weight l =
    record {
      full_weight = full_weight;
      choice = λ i a. get_or l (choice_index (shape_of b) i a) 0;
      pair = λ k a c. get_or l (choice_count (shape_of b) + entry_index (shape_of b) k a c) 0;
    }

-- a line's weights: one for each choice and for each pair's two choices, none judged but by its 3 bytes
pub record WeightsFor (b : List ℤ) (l : List ℕ) : Type 0 where
  pub count : length l ≡ weight_count (shape_of b)
  pub small : (p : ℕ) → p < length l → get_or l p 0 < weights_below

-- E of a line's weights
abbrev pub ceiling : List ℤ → Weights → ℕ
ceiling b w = weighted (shape_of b) w (held_costs b)

-- 'Reached means E = W × c0'; the sums are judged first, then what is forbidden
abbrev pub certificate : List ℤ → Weights → Result Ceiling Refusal
certificate b w =
    cond (balanced (shape_of b) w)
    (cond (spared (shape_of b) w) (Ok (record { reached = eqb (ceiling b w) (w.full_weight * constant b); weighted = ceiling b w })) (Err ForbiddenWeight))
    (Err Sums)
