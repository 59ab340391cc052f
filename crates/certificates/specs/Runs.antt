-- The rule of specs/Certify.antt by runs of weights, as the code goes through them. No part of the rule: proofs/Runs.antt shows that they say the same.
use Rattle.std.specs.Prelude.{◌≡◌, Bool, cond, ◌&&◌, ◌||◌, List, ℕ, ◌+◌, ◌*◌, ◌<◌, ◌≤◌, eqb, ℤ, length, get_or, Option, Some, None}
use Rattle.theory.specs.Sum.{sum}
use Rattle.theory.specs.Range.{all}
use Rattle.tables.specs.LineLimits.{max_full_weight}
use Rattle.tables.specs.Block.{max_choices, max_parts, loaded_choice_place, loaded_entry_place, held_choice_place, held_entry_place, at, figure, trains, pairs, size, first, second}
use Rattle.tables.specs.WellFormed.{is_open}
use Rattle.tables.specs.Plans.{shape_of}
use Rattle.tables.specs.Counts.{choices_before, choice_count, entries_before}
use Rattle.certificates.specs.Certify.{weights_below}

-- ---- one run

-- the sum of `count` weights from `from` on, `step` apart
abbrev pub run_sum : List ℕ → ℕ → ℕ → ℕ → ℕ
run_sum l from step count = sum count (λ k. get_or l (from + step * k) 0)

-- a run of one to eight weights of a line
pub record WeightRun (l : List ℕ) (from step count : ℕ) : Type 0 where
  pub some : 1 ≤ count
  pub few : count ≤ max_choices
  pub inside : (k : ℕ) → k < count → from + step * k < length l
  pub small : (k : ℕ) → k < count → get_or l (from + step * k) 0 < weights_below

-- the sum of `count` weights from `from` on, each times the number at its place of the block, from `place` on
abbrev pub run_weighted : List ℕ → ℕ → List ℤ → ℕ → ℕ → ℕ
run_weighted l from b place count = sum count (λ k. get_or l (from + k) 0 * figure b (place + k))

-- a run of weights whose sum is no more than W may be, and the held costs that it weighs
pub record WeightsWithin (l : List ℕ) (from : ℕ) (b : List ℤ) (place count : ℕ) : Type 0 where
  pub inside : from + count ≤ length l
  pub places : place + count ≤ length b
  pub sum : run_sum l from 1 count ≤ max_full_weight
  pub costs : (k : ℕ) → k < count → figure b (place + k) ≤ max_parts

-- ---- the runs of a certificate

-- `runs` runs, the first from `from` on and each `apart` further than the one before, sum to the weights from `choices` on
abbrev pub run_matches : List ℕ → ℕ → ℕ → ℕ → ℕ → ℕ → ℕ → Bool
run_matches l from apart step count choices r = eqb (run_sum l (from + apart * r) step count) (get_or l (choices + r) 0)

abbrev pub runs_match : List ℕ → ℕ → ℕ → ℕ → ℕ → ℕ → ℕ → Bool
runs_match l from apart step count choices runs = all runs (run_matches l from apart step count choices)

pub record WeightRuns (l : List ℕ) (from apart step count choices runs : ℕ) : Type 0 where
  pub each : (r : ℕ) → r < runs → WeightRun l (from + apart * r) step count
  pub inside : choices + runs ≤ length l

-- the weights of each train sum to W
abbrev pub train_matches : List ℤ → List ℕ → ℕ → ℕ → Bool
train_matches b l full_weight i = eqb (run_sum l (choices_before (shape_of b) i) 1 (size b i)) full_weight

unfoldable pub trains_match : List ℤ → List ℕ → ℕ → Bool
trains_match b l full_weight = all (trains b) (train_matches b l full_weight)

-- where the weights of pair k begin
abbrev pub entries_from : List ℤ → ℕ → ℕ
entries_from b k = choice_count (shape_of b) + entries_before (shape_of b) k

pub record PairFrom (b : List ℤ) (k from : ℕ) : Type 0 where
  pub there : k < pairs b
  pub begins : from ≡ entries_from b k

-- the rows of pair k sum to the weights of its first train, its columns to those of its second
unfoldable pub pair_matches : List ℤ → List ℕ → ℕ → Bool
pair_matches b l k =
    runs_match l (entries_from b k) (size b (second b k)) 1 (size b (second b k)) (choices_before (shape_of b) (first b k)) (size b (first b k))
    && runs_match l (entries_from b k) 1 (size b (second b k)) (size b (first b k)) (choices_before (shape_of b) (second b k)) (size b (second b k))

unfoldable pub pairs_match : List ℤ → List ℕ → Bool
pairs_match b l = all (pairs b) (pair_matches b l)

-- E's parts: the choices of train i, row a of pair k, and all of them
unfoldable pub train_weighted : List ℤ → List ℕ → ℕ → ℕ
train_weighted b l i = run_weighted l (choices_before (shape_of b) i) b (held_choice_place i 0) (size b i)

unfoldable pub trains_weighted : List ℤ → List ℕ → ℕ
trains_weighted b l = sum (trains b) (train_weighted b l)

unfoldable pub row_weighted : List ℤ → List ℕ → ℕ → ℕ → ℕ
row_weighted b l k a = run_weighted l (entries_from b k + size b (second b k) * a) b (held_entry_place k a 0) (size b (second b k))

unfoldable pub pair_weighted : List ℤ → List ℕ → ℕ → ℕ
pair_weighted b l k = sum (size b (first b k)) (row_weighted b l k)

unfoldable pub pairs_weighted : List ℤ → List ℕ → ℕ
pairs_weighted b l = sum (pairs b) (pair_weighted b l)

-- no train's weights, no row's of pair k, and no row's of any pair, sum to more than W may be: so it is once they have been judged
pub record TrainsWithin (b : List ℤ) (l : List ℕ) : Type 0 where
  pub sums : (i : ℕ) → i < trains b → run_sum l (choices_before (shape_of b) i) 1 (size b i) ≤ max_full_weight

pub record RowsWithin (b : List ℤ) (l : List ℕ) (k : ℕ) : Type 0 where
  pub sums : (a : ℕ) → a < size b (first b k) → run_sum l (entries_from b k + size b (second b k) * a) 1 (size b (second b k)) ≤ max_full_weight

pub record PairsWithin (b : List ℤ) (l : List ℕ) : Type 0 where
  pub rows : (k : ℕ) → k < pairs b → RowsWithin b l k

-- ---- what is forbidden, by runs

-- a weight of 0, or one on an open place of H
abbrev pub weight_spared : List ℤ → ℕ → ℕ → Bool
weight_spared b p v = is_open (at b p) || eqb v 0

-- `count` weights from `from` on, and their places of H, from `place` on
abbrev pub run_spared : List ℕ → ℕ → List ℤ → ℕ → ℕ → Bool
run_spared l from b place count = all count (λ k. weight_spared b (place + k) (get_or l (from + k) 0))

-- the choices of train i, row a of pair k, and all of them
unfoldable pub train_spared : List ℤ → List ℕ → ℕ → Bool
train_spared b l i = run_spared l (choices_before (shape_of b) i) b (loaded_choice_place i 0) (size b i)

unfoldable pub trains_spared : List ℤ → List ℕ → Bool
trains_spared b l = all (trains b) (train_spared b l)

unfoldable pub row_spared : List ℤ → List ℕ → ℕ → ℕ → Bool
row_spared b l k a = run_spared l (entries_from b k + size b (second b k) * a) b (loaded_entry_place k a 0) (size b (second b k))

unfoldable pub pair_spared : List ℤ → List ℕ → ℕ → Bool
pair_spared b l k = all (size b (first b k)) (row_spared b l k)

unfoldable pub pairs_spared : List ℤ → List ℕ → Bool
pairs_spared b l = all (pairs b) (pair_spared b l)

-- ---- E's parts, where nothing forbidden is weighed

abbrev pub weighed : Bool → ℕ → Option ℕ
weighed t x = cond t (Some x) None

-- `count` weights from `from` on, and their places of the block, from `place` on
abbrev pub run_weighed : List ℕ → ℕ → List ℤ → ℕ → ℕ → Option ℕ
run_weighed l from b place count = weighed (run_spared l from b place count) (run_weighted l from b place count)

-- train i, the trains, pair k, and the pairs
abbrev pub train_weighed : List ℤ → List ℕ → ℕ → Option ℕ
train_weighed b l i = weighed (train_spared b l i) (train_weighted b l i)

abbrev pub trains_weighed : List ℤ → List ℕ → Option ℕ
trains_weighed b l = weighed (trains_spared b l) (trains_weighted b l)

abbrev pub pair_weighed : List ℤ → List ℕ → ℕ → Option ℕ
pair_weighed b l k = weighed (pair_spared b l k) (pair_weighted b l k)

abbrev pub pairs_weighed : List ℤ → List ℕ → Option ℕ
pairs_weighed b l = weighed (pairs_spared b l) (pairs_weighted b l)
