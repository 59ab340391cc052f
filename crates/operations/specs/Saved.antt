-- Document 02, change 1: the numbers of the study that a block holds, as a load gives them: n, s, sizes, pairs and H.
use Rattle.std.specs.Prelude.{◌≡◌, List, ◌≢◌, ℕ, ◌*◌, ◌<◌, ◌≤◌, ℤ, pos, negsuc, length}
use Rattle.theory.specs.Lists.{list_of, joined}
use Rattle.tables.specs.Block.{constant_place, loaded_choices_from, held_choices_from, loaded_entries_from, held_entries_from, loaded_choice_place, loaded_entry_place, at, trains, scale, pairs, constant, size, first, second, loaded_choice, held_choice, loaded_entry, held_entry, order}
use Rattle.tables.specs.Numbers.{Numbers, numbers, forbidden_cost}

-- the number in a load line that loads what stands in a place of H: FFFFFF for −1
unfoldable pub saved_cost : ℤ → ℕ
saved_cost (pos n) = n
saved_cost (negsuc n) = forbidden_cost

-- the costs of train i, by choice
abbrev pub train_costs : List ℤ → ℕ → List ℕ
train_costs b i = list_of (size b i) (λ a. saved_cost (at b (loaded_choice_place i a)))

-- row a of pair k
abbrev pub row_costs : List ℤ → ℕ → ℕ → List ℕ
row_costs b k a = list_of (size b (second b k)) (λ c. saved_cost (at b (loaded_entry_place k a c)))

-- the costs of pair k, 'a outer, b inner'
abbrev pub pair_costs : List ℤ → ℕ → List ℕ
pair_costs b k = joined (size b (first b k)) (row_costs b k)

-- the numbers of the whole study
unfoldable pub saved_numbers : List ℤ → Numbers
saved_numbers b =
    numbers (scale b) (list_of (trains b) (size b)) (joined (trains b) (train_costs b))
    (list_of (pairs b) (first b)) (list_of (pairs b) (second b)) (joined (pairs b) (pair_costs b))

-- 'the same n, s, sizes, pairs and H': the same number at every place of theirs, used or not. c0 and T are not of it
pub record SameLoaded (b c : List ℤ) : Type 0 where
  pub whole : length c ≡ length b
  pub shape : (p : ℕ) → p < loaded_choices_from → p ≢ constant_place → at c p ≡ at b p
  pub choices : (p : ℕ) → loaded_choices_from ≤ p → p < held_choices_from → at c p ≡ at b p
  pub entries : (p : ℕ) → loaded_entries_from ≤ p → p < held_entries_from → at c p ≡ at b p

-- c is as a load leaves it: 'T becomes s × H, c0 becomes 0', and document 02, change 10: 'a load .. sets 0 to n−1'
pub record AsLoaded (c : List ℤ) : Type 0 where
  pub cleared : constant c ≡ 0
  pub choices : (i a : ℕ) → i < trains c → a < size c i → held_choice c i a ≡ scale c * loaded_choice c i a
  pub entries : (k a d : ℕ) → k < pairs c → a < size c (first c k) → d < size c (second c k) → held_entry c k a d ≡ scale c * loaded_entry c k a d
  pub in_order : (d : ℕ) → d < trains c → order c d ≡ d
