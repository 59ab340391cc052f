-- Document 02, change 9: 'the greatest common divisor of all loaded costs as H now holds them, additions included, forbidden entries left out', and 'rounds up to a multiple' of it. Document 01's form:
-- 'Euclid by recursion with falling remainder, folded over H'. Steps are in points, as H is.
use Rattle.std.specs.Prelude.{cond, List, ℕ, zero, suc, ◌*◌, ◌%◌, ◌<◌, eqb, ℤ}
use Rattle.theory.specs.Fold.{iter}
use Rattle.units.specs.Units.{rounded_up}
use Rattle.tables.specs.Block.{trains, pairs, size, first, second, loaded_choice, loaded_entry}

-- ---- the greatest common divisor of two numbers

-- 'Euclid by recursion with falling remainder': the first number is how many calls are left
unfoldable pub euclid : ℕ → ℕ → ℕ → ℕ
euclid zero a b = a
euclid (suc d) a zero = a
euclid (suc d) a (suc b) = euclid d (suc b) (a % suc b)

-- the remainder falls below b, so that b calls are enough
unfoldable pub gcd : ℕ → ℕ → ℕ
gcd a b = euclid b a b

-- ---- 'folded over H', over its used entries, from the divisor g of those before. A 0 changes nothing, and a forbidden entry reads as 0: 'forbidden entries left out'

-- the choices of train i, and of all trains
abbrev pub train_step : List ℤ → ℕ → ℕ → ℕ
train_step b i g = iter (size b i) (λ a. gcd (loaded_choice b i a)) g

abbrev pub choices_step : List ℤ → ℕ
choices_step b = iter (trains b) (train_step b) 0

-- the entries of row a of pair k, of all rows of the pair, and of all pairs
abbrev pub row_step : List ℤ → ℕ → ℕ → ℕ → ℕ
row_step b k a g = iter (size b (second b k)) (λ c. gcd (loaded_entry b k a c)) g

abbrev pub pair_step : List ℤ → ℕ → ℕ → ℕ
pair_step b k g = iter (size b (first b k)) (row_step b k) g

abbrev pub entries_step : List ℤ → ℕ → ℕ
entries_step b g = iter (pairs b) (pair_step b) g

-- 'of all loaded costs': the choices, then the pairs
abbrev pub costs_step : List ℤ → ℕ
costs_step b = entries_step b (choices_step b)

-- 'if all are 0 it is 1'
unfoldable pub step_of : List ℤ → ℕ
step_of b = cond (eqb (costs_step b) 0) 1 (costs_step b)

-- v is a used entry of H, of a choice or of a pair
pub data Used (b : List ℤ) : ℕ → Type 0 where
  choice : (i a : ℕ) → i < trains b → a < size b i → Used b (loaded_choice b i a)
  entry : (k a c : ℕ) → k < pairs b → a < size b (first b k) → c < size b (second b k) → Used b (loaded_entry b k a c)

-- ---- the bound in steps

-- 'rounds up to a multiple': the least multiple of g that is not below p
unfoldable pub rounded_to : ℕ → ℕ → ℕ
rounded_to g p = g * rounded_up g p
