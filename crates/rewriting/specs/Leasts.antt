-- Which places are open, the least of a run over its open places, and what moves it: the step that a tightening and a round are made of.
use Rattle.std.specs.Prelude.{◌≡◌, Bool, true, false, cond, List, ◌⊎◌, ℕ, zero, suc, ◌-◌, ◌<◌, ◌≤◌, min, ltb, ℤ, pos, Option, Some, None}
use Rattle.theory.specs.Fold.{iter}
use Rattle.units.specs.declared.Parts.{Parts}
use Rattle.units.specs.Units.{the_parts, number_of_parts}
use Rattle.tables.specs.Block.{block_length, loaded_choices_from, held_choices_from, loaded_entries_from, held_entries_from, order_from, at, figure, size}
use Rattle.tables.specs.WellFormed.{is_open}
use Rattle.rewriting.specs.declared.sides.PlaceRun.{PlaceRun}
use Rattle.rewriting.specs.declared.sides.Side.{Side}
use Rattle.rewriting.specs.Moves.{run_place, move_run, lane_train, lane_run, choices_run}

-- ---- open places

-- a place of T: of a choice, or of two choices of a pair
pub record HeldPlace (p : ℕ) : Type 0 where
  pub low : held_choices_from ≤ p
  pub table : (p < loaded_entries_from) ⊎ (held_entries_from ≤ p)
  pub high : p < order_from

-- a run of such places
pub record HeldRun (r : PlaceRun) : Type 0 where
  pub held : (i : ℕ) → i < r.count → HeldPlace (run_place r i)

-- where H has the cost of a place of T: it says whether the entry is forbidden, since no move changes it. Every other place stands for itself
unfoldable pub mate_place : ℕ → ℕ
mate_place p =
    cond (ltb p held_choices_from) p
    (cond (ltb p loaded_entries_from) (p - (held_choices_from - loaded_choices_from))
    (cond (ltb p held_entries_from) p
    (cond (ltb p order_from) (p - (held_entries_from - loaded_entries_from)) p)))

-- a place whose entry is not forbidden; so are the shape's places, the constant's, and those of the order that are not below 0
unfoldable pub open_place : List ℤ → ℕ → Bool
open_place b p = cond (ltb p loaded_choices_from) true (is_open (at b (mate_place p)))

-- no open number of the block is below 0: so it stays while leasts are moved
pub record NonNegative (b : List ℤ) : Type 0 where
  pub natural : (p : ℕ) → p < block_length → open_place b p ≡ true → at b p ≡ pos (figure b p)

-- ---- leasts

-- with one figure more, which counts where its place is open
abbrev pub met_one : Bool → ℕ → Option Parts → Option Parts
met_one true v (Some p) = Some (the_parts (min (number_of_parts p) v))
met_one true v None = Some (the_parts v)
met_one false v so = so

-- the least of f 0 to f (n - 1), of which those count where o holds, if one does
unfoldable pub found_of : ℕ → (ℕ → Bool) → (ℕ → ℕ) → Option Parts
found_of zero o f = None
found_of (suc n) o f = met_one (o n) (f n) (found_of n o f)

-- 'Least costs are taken over permitted entries; where there are none, nothing moves': 0 then
abbrev pub figure_of : Option Parts → ℕ
figure_of (Some p) = number_of_parts p
figure_of None = 0

abbrev pub least_open : ℕ → (ℕ → Bool) → (ℕ → ℕ) → ℕ
least_open n o f = figure_of (found_of n o f)

-- the least open figure of a run
unfoldable pub run_least : PlaceRun → List ℤ → ℕ
run_least r b = least_open r.count (λ i. open_place b (run_place r i)) (λ i. figure b (run_place r i))

-- the least of a run goes from each of its places to where its costs go
unfoldable pub run_tightened : PlaceRun → List ℤ → List ℤ
run_tightened r b = move_run r (pos (run_least r b)) b

-- the least of lane x of pair k goes to choice x of the side's train
abbrev pub lane_tightened : Side → ℕ → ℕ → List ℤ → List ℤ
lane_tightened side k x b = run_tightened (lane_run side b k x) b

-- each lane of a side, ascending
abbrev pub lanes_tightened : Side → ℕ → List ℤ → List ℤ
lanes_tightened side k b = iter (size b (lane_train side b k)) (lane_tightened side k) b

-- 'the least c_i(a) is taken off every choice and added to c0'
abbrev pub train_tightened : ℕ → List ℤ → List ℤ
train_tightened i b = run_tightened (choices_run b i) b
