-- Document 01, 'Problem and units': the shape of a problem, its costs, its plans and their totals, above the places of the block.
use Rattle.std.specs.Prelude.{◌≡◌, Bool, true, ◌&&◌, List, ◌⊎◌, ℕ, ◌+◌, ◌<◌, ◌≤◌, ltb, eqb, ℤ, get_or}
use Rattle.theory.specs.Sum.{sum}
use Rattle.theory.specs.Range.{all}
use Rattle.tables.specs.Block.{loaded_choice_place, loaded_entry_place, at, trains, pairs, constant, size, first, second, loaded_choice, held_choice, loaded_entry, held_entry}
use Rattle.tables.specs.WellFormed.{is_open}

-- 'A problem has n trains .. Train i has d(i) choices .. It has m pairs': variables, domains and scopes, in the words of the field
pub record Shape : Type 0 where
  pub trains : ℕ
  pub size : ℕ → ℕ
  pub pairs : ℕ
  pub first : ℕ → ℕ
  pub second : ℕ → ℕ
  -- 'A choice or pair of choices can be forbidden': those that are not
  pub choice_open : ℕ → ℕ → Bool
  pub entry_open : ℕ → ℕ → ℕ → Bool

-- two shapes agree where they are used: their trains with the sizes, their pairs, and which entries are open
pub record AlikeShapes (s u : Shape) : Type 0 where
  pub trains_same : s.trains ≡ u.trains
  pub sizes_same : (i : ℕ) → i < s.trains → s.size i ≡ u.size i
  pub pairs_same : s.pairs ≡ u.pairs
  pub firsts_same : (k : ℕ) → k < s.pairs → s.first k ≡ u.first k
  pub seconds_same : (k : ℕ) → k < s.pairs → s.second k ≡ u.second k
  pub choices_open_same : (i a : ℕ) → i < s.trains → a < s.size i → s.choice_open i a ≡ u.choice_open i a
  pub entries_open_same : (k a c : ℕ) → k < s.pairs → a < s.size (s.first k) → c < s.size (s.second k) → s.entry_open k a c ≡ u.entry_open k a c

-- 'a cost c_i(a) for each choice, c_ij(a,b) for each pair's two choices, and a constant c0'
pub record Costs : Type 0 where
  pub constant : ℕ
  pub choice : ℕ → ℕ → ℕ
  pub pair : ℕ → ℕ → ℕ → ℕ

-- 'A plan gives each train one choice', and 'A plan with a forbidden entry is no plan'
pub record IsPlan (s : Shape) (x : ℕ → ℕ) : Type 0 where
  pub below : (i : ℕ) → i < s.trains → x i < s.size i
  pub choices : (i : ℕ) → i < s.trains → s.choice_open i (x i) ≡ true
  pub entries : (k : ℕ) → k < s.pairs → s.entry_open k (x (s.first k)) (x (s.second k)) ≡ true

-- document 02, change 11: n is the number of trains, and each choice is there; where it is not, 'n or a choice not the block's'
unfoldable pub choices_held : Shape → ℕ → (ℕ → ℕ) → Bool
choices_held s n x = eqb n s.trains && all n (λ i. ltb (x i) (s.size i))

-- none of a plan's entries is forbidden
unfoldable pub plan_open : Shape → (ℕ → ℕ) → Bool
plan_open s x = all s.trains (λ i. s.choice_open i (x i)) && all s.pairs (λ k. s.entry_open k (x (s.first k)) (x (s.second k)))

-- nothing is forbidden
pub record Open (s : Shape) : Type 0 where
  pub choices : (i a : ℕ) → i < s.trains → a < s.size i → s.choice_open i a ≡ true
  pub entries : (k a c : ℕ) → k < s.pairs → a < s.size (s.first k) → c < s.size (s.second k) → s.entry_open k a c ≡ true

-- the trains of pair k are i and its partner j, in either order
abbrev pub PairOf : Shape → ℕ → ℕ → ℕ → Type 0
PairOf s i j k = ((s.first k ≡ i) × (s.second k ≡ j)) ⊎ ((s.second k ≡ i) × (s.first k ≡ j))

-- document 02, change 4, 'at most one partner of lower number': no two pairs have the same second train
pub record Branches (s : Shape) : Type 0 where
  pub one : (k l : ℕ) → k < s.pairs → l < s.pairs → s.second k ≡ s.second l → k ≡ l

-- 'the least total of any plan': v is at most f of every plan, and one has it
pub record LeastOf (s : Shape) (f : (ℕ → ℕ) → ℕ) (v : ℕ) : Type 0 where
  pub least : (x : ℕ → ℕ) → IsPlan s x → v ≤ f x
  pub plan : ℕ → ℕ
  pub is_plan : IsPlan s plan
  pub is : f plan ≡ v

-- the choices that a list gives, by train
abbrev pub choices_of : List ℕ → ℕ → ℕ
choices_of l i = get_or l i 0

-- the costs of a plan's choices
unfoldable pub choice_total : Shape → Costs → (ℕ → ℕ) → ℕ
choice_total s t x = sum s.trains (λ i. t.choice i (x i))

-- the costs of a plan's pairs
unfoldable pub pair_total : Shape → Costs → (ℕ → ℕ) → ℕ
pair_total s t x = sum s.pairs (λ k. t.pair k (x (s.first k)) (x (s.second k)))

-- 'Its total is c0, plus its choices' costs, plus its pairs' costs'
unfoldable pub total : Shape → Costs → (ℕ → ℕ) → ℕ
total s t x = t.constant + choice_total s t x + pair_total s t x

-- the shape that a block holds: H says which entries are open
abbrev pub shape_of : List ℤ → Shape
shape_of b =
    record {
      trains = trains b;
      size = size b;
      pairs = pairs b;
      first = first b;
      second = second b;
      choice_open = λ i a. is_open (at b (loaded_choice_place i a));
      entry_open = λ k a c. is_open (at b (loaded_entry_place k a c));
    }

-- 'Loaded costs H are in points and have no constant'
unfoldable pub loaded_costs : List ℤ → Costs
loaded_costs b = record { constant = 0; choice = loaded_choice b; pair = loaded_entry b }

-- 'Held tables T are in parts', with c0
unfoldable pub held_costs : List ℤ → Costs
held_costs b = record { constant = constant b; choice = held_choice b; pair = held_entry b }

-- a plan's total in H, in points: its cost
abbrev pub loaded_total : List ℤ → (ℕ → ℕ) → ℕ
loaded_total b x = total (shape_of b) (loaded_costs b) x

-- a plan's total in T and c0, in parts
abbrev pub held_total : List ℤ → (ℕ → ℕ) → ℕ
held_total b x = total (shape_of b) (held_costs b) x
