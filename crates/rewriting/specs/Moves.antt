-- Source document 000, Algorithm 1: Project and UnaryProject on the held table. All costs are whole numbers, below 0 too: only the end of an operation is judged.
use Rattle.std.specs.Prelude.{◌≡◌, List, ℕ, ◌+◌, ◌*◌, ◌<◌, ◌≤◌, ℤ, neg_ℤ, ◌+ℤ◌, length, set}
use Rattle.std.specs.Int.Signed.{mag}
use Rattle.theory.specs.Fold.{iter}
use Rattle.tables.specs.Block.{block_length, max_trains, max_choices, max_pairs, constant_place, held_choice_place, held_entry_place, at, trains, pairs, size, first, second}
use Rattle.rewriting.specs.declared.sides.PlaceRun.{PlaceRun}
use Rattle.rewriting.specs.declared.sides.Side.{Side}
use Rattle.rewriting.specs.declared.sides.Side.TheVariants.{Rows, Columns}

-- every number of the block is at most h away from 0: what keeps sums within 64 bits
pub record Room (b : List ℤ) (h : ℕ) : Type 0 where
  pub room : (p : ℕ) → mag (at b p) ≤ h

-- the shape of the block is within its ranges, whatever its costs are: so are the blocks between the beginning and the end of an operation on a study
pub record ShapeInRange (b : List ℤ) : Type 0 where
  pub whole : length b ≡ block_length
  pub trains : trains b ≤ max_trains
  pub pairs : pairs b ≤ max_pairs
  pub sizes : (i : ℕ) → i < max_trains → size b i ≤ max_choices
  pub firsts : (k : ℕ) → k < max_pairs → first b k < max_trains
  pub seconds : (k : ℕ) → k < max_pairs → second b k < max_trains

-- each train has a choice, and each pair two trains that are there
pub record NonEmpty (b : List ℤ) : Type 0 where
  pub sizes : (i : ℕ) → i < trains b → 1 ≤ size b i
  pub firsts : (k : ℕ) → k < pairs b → first b k < trains b
  pub seconds : (k : ℕ) → k < pairs b → second b k < trains b

-- z is added at place p
abbrev pub add_at : ℕ → ℤ → List ℤ → List ℤ
add_at p z b = set b p (at b p +ℤ z)

-- place i of a run
abbrev pub run_place : PlaceRun → ℕ → ℕ
run_place r i = r.from + r.step * i

-- z is added at each place of a run
abbrev pub add_run : PlaceRun → ℤ → List ℤ → List ℤ
add_run r z b = iter r.count (λ i. add_at (run_place r i) z) b

-- the places of a run, which differ, and the place that its costs go to are places of the block
pub record RunIn (b : List ℤ) (r : PlaceRun) : Type 0 where
  pub apart : 0 < r.step
  pub inside : (i : ℕ) → i < r.count → run_place r i < length b
  pub there : r.to < length b

-- α goes from each place of a run to where its costs go
unfoldable pub move_run : PlaceRun → ℤ → List ℤ → List ℤ
move_run r α b = add_run r (neg_ℤ α) (add_at r.to α b)

-- the train of pair k that has a choice for each lane of a side
abbrev pub lane_train : Side → List ℤ → ℕ → ℕ
lane_train Rows b k = first b k
lane_train Columns b k = second b k

-- lane x of pair k: its entries, and choice x of the side's train
abbrev pub lane_run : Side → List ℤ → ℕ → ℕ → PlaceRun
lane_run Rows b k x = record { from = held_entry_place k x 0; step = 1; count = size b (second b k); to = held_choice_place (first b k) x }
lane_run Columns b k x = record { from = held_entry_place k 0 x; step = max_choices; count = size b (first b k); to = held_choice_place (second b k) x }

-- the choices of train i, and the constant
abbrev pub choices_run : List ℤ → ℕ → PlaceRun
choices_run b i = record { from = held_choice_place i 0; step = 1; count = size b i; to = constant_place }

-- Project: α goes from lane x of pair k to choice x of the side's train
abbrev pub project : Side → ℕ → ℕ → ℤ → List ℤ → List ℤ
project side k x α b = move_run (lane_run side b k x) α b

-- UnaryProject: α goes from each choice of train i to the constant
abbrev pub project_unary : ℕ → ℤ → List ℤ → List ℤ
project_unary i α b = move_run (choices_run b i) α b
