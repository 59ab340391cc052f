-- How far from 0 numbers may be on the way of a round, where numbers above L are fine and any come to stand at forbidden places: what keeps sums within 64 bits. No plan is asked for.
use Rattle.std.specs.Prelude.{◌≡◌, true, List, ℕ, ◌+◌, ◌*◌, ◌<◌, ◌≤◌, ℤ}
use Rattle.std.specs.Int.Signed.{mag}
use Rattle.theory.specs.Sum.{sum}
use Rattle.tables.specs.Block.{max_trains, max_pairs, max_parts, at, trains, pairs, size, first, second, held_choice, held_entry}
use Rattle.tables.specs.Plans.{shape_of}
use Rattle.rewriting.specs.Moves.{ShapeInRange, NonEmpty}
use Rattle.rewriting.specs.Leasts.{NonNegative}

-- all that can still move, where no permitted choice of train i is above `train i` and no permitted entry of a waiting pair k above `pair k`: what a train has goes to a train of
-- lower number each time it moves, and at last to the constant, and what a pair has goes as its second train's
abbrev pub ahead : List ℤ → (ℕ → ℕ) → (ℕ → ℕ) → ℕ
ahead b train pair = sum (trains b) (λ i. (i + 1) * train i) + sum (pairs b) (λ k. (second b k + 1) * pair k)

-- no number is further from 0 than L at the beginning, and every train and every pair at L can move as often as there are trains
abbrev pub max_heights : ℕ
max_heights = max_parts + (max_trains + max_pairs) * (max_trains * max_parts)

-- each train has a height, which none of its permitted choices is above, and each waiting pair one for its permitted entries; wherever a number stands, forbidden places too, its distance
-- from 0 and what can still move are together no more than at the beginning, since what can still move falls by no less than a turn moves any number
pub record Heights (b : List ℤ) (waiting : ℕ → Type 0) (c : List ℤ) : Type 0 where
  pub train : ℕ → ℕ
  pub pair : ℕ → ℕ
  pub choices : (i a : ℕ) → i < trains b → a < size b i → (shape_of b).choice_open i a ≡ true → held_choice c i a ≤ train i
  pub entries : (k a y : ℕ) → k < pairs b → waiting k → a < size b (first b k) → y < size b (second b k) → (shape_of b).entry_open k a y ≡ true → held_entry c k a y ≤ pair k
  pub near : (p : ℕ) → mag (at c p) + ahead b train pair ≤ max_heights

-- 'm pairs i < j'
pub record Ascending (b : List ℤ) : Type 0 where
  pub ascends : (k : ℕ) → k < pairs b → first b k < second b k

-- the turn of train j may begin: the pairs of higher second trains are over, and no number is below 0 at a permitted place or far from 0 anywhere
pub record Ready (b : List ℤ) (j : ℕ) : Type 0 where
  pub shape_in_range : ShapeInRange b
  pub non_empty : NonEmpty b
  pub ascending : Ascending b
  pub non_negative : NonNegative b
  pub heights : Heights b (λ k. second b k < j + 1) b
