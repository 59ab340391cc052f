-- Document 01, 12: 'c0 or an entry would end below 0 or above L', as a statement about the numbers that an operation ends with. A forbidden
-- entry adds 'no condition', and stays as it is.
use Rattle.std.specs.Prelude.{◌≡◌, true, false, cond, List, ◌⊎◌, ℕ, ◌<◌, eqb, ℤ, pos, negsuc}
use Rattle.std.specs.Int.Signed.{lt_z}
use Rattle.tables.specs.Plans.{shape_of}
use Rattle.tables.specs.Block.{max_parts, constant_place, held_choice_place, held_entry_place, at, trains, pairs, size, first, second}

-- where c0, each choice and each entry of a pair end: whole numbers, below 0 too
pub record Ends : Type 0 where
  pub constant : ℤ
  pub choice : ℕ → ℕ → ℤ
  pub entry : ℕ → ℕ → ℕ → ℤ

-- those that stand in a block
abbrev pub ends_of : List ℤ → Ends
ends_of c = record { constant = at c constant_place; choice = λ i a. at c (held_choice_place i a); entry = λ k a d. at c (held_entry_place k a d) }

-- the same numbers, at the permitted entries of b
pub record SameEnds (b : List ℤ) (e f : Ends) : Type 0 where
  pub constant : e.constant ≡ f.constant
  pub choice : (i a : ℕ) → i < trains b → a < size b i → (shape_of b).choice_open i a ≡ true → e.choice i a ≡ f.choice i a
  pub entry : (k a d : ℕ) → k < pairs b → a < size b (first b k) → d < size b (second b k) → (shape_of b).entry_open k a d ≡ true → e.entry k a d ≡ f.entry k a d

-- 'H and T hold −1': so do these numbers at the forbidden entries of b
pub record Forbidden (b : List ℤ) (e : Ends) : Type 0 where
  pub choice : (i a : ℕ) → i < trains b → a < size b i → (shape_of b).choice_open i a ≡ false → e.choice i a ≡ negsuc 0
  pub entry : (k a d : ℕ) → k < pairs b → a < size b (first b k) → d < size b (second b k) → (shape_of b).entry_open k a d ≡ false → e.entry k a d ≡ negsuc 0

-- what pair k has for train i: r where i is its first train, q where it is its second, z where it is neither
unfoldable pub of_pair : {A : Type 0} → List ℤ → ℕ → ℕ → A → A → A → A
of_pair b k i r q z = cond (eqb i (first b k)) r (cond (eqb i (second b k)) q z)

-- 'below 0', and 'above L'
abbrev pub Below : ℤ → Type 0
Below z = lt_z z (pos 0) ≡ true

abbrev pub Above : ℤ → Type 0
Above z = lt_z (pos max_parts) z ≡ true

abbrev pub Outside : ℤ → Type 0
Outside z = Below z ⊎ Above z

-- 'c0 or an entry would end' there: the constant, a permitted choice of a train of b, or two choices of a pair of b that are permitted together end at a number of which P holds
pub data SomeEnd (P : ℤ → Type 0) (b : List ℤ) (e : Ends) : Type 0 where
  constant : P e.constant → SomeEnd P b e
  choice : (i a : ℕ) → i < trains b → a < size b i → (shape_of b).choice_open i a ≡ true → P (e.choice i a) → SomeEnd P b e
  entry : (k a d : ℕ) → k < pairs b → a < size b (first b k) → d < size b (second b k) → (shape_of b).entry_open k a d ≡ true → P (e.entry k a d) → SomeEnd P b e
