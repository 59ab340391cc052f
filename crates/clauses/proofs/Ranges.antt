-- The numbers of clauses are those of a load: as many as the sizes say, and within the ranges of document 01 where 20 and 10 do not decline them.
use mathlib.Core.Path.{◌≡◌, refl, sym, ap, ap₂, ◌∙◌}
use mathlib.Core.Bool.{true}
use mathlib.Core.List.{List}
use mathlib.Core.Logic.{dite}
use Prim.Native.Nat.{ℕ, ◌+◌, ◌*◌, ◌/◌, ◌%◌, ◌<◌, ◌≤◌}
use native.Mathlib.Decide.{dec_lt}
use native.Mathlib.Omega.{arith}
use borrow.Author.Tests.{lt-ltb, le-ltb, eq-eqb, le-leb, leb-true}
use lib.Dec.{leb}
use lib.ListN.{length, length-replicate, get_or-replicate, length-map, get_or-eq_default}
use Rattle.theory.specs.Lists.{nth}
use Rattle.theory.proofs.Sum.{sum_cong, sum_const}
use Rattle.theory.proofs.Range.{both_true, all_true}
use Rattle.theory.proofs.Lists.{list_length}
use Rattle.tables.specs.Block.{max_trains, max_pairs, max_cost}
use Rattle.tables.specs.WellFormed.{before}
use Rattle.tables.specs.Counts.{rows_of, columns_of, pair_entries, choices_before, entries_before}
use Rattle.tables.specs.Numbers.{is_cost, permits, paid, numbers_shape, InRange}
use Rattle.tables.proofs.Prices.{permitted}
use Rattle.clauses.specs.Clauses.{Clauses, InLimits, clause_choices, clause_entries, named, max_codes, cell_cost, pair_codes, choice_cost_at, entry_cost_at, clause_numbers, costs_within, sums_within}
use Rattle.clauses.proofs.Lists.{nth-map}
use Rattle.clauses.proofs.Codes.{codes_pass, codes_ascend}
use Rattle.clauses.proofs.Pairs.{named_pair}

module _ (n s : ℕ) (cs : Clauses) where
  -- ---- how many there are

  pub clause_trains : length (clause_numbers n s cs).sizes ≡ n
  unfolding clause_numbers
  clause_trains = length-replicate n clause_choices

  pub clause_pairs : length (clause_numbers n s cs).firsts ≡ length (pair_codes cs)
  unfolding clause_numbers
  clause_pairs = length-map (pair_codes cs) (λ o. o / max_trains)

  clause_seconds : length (clause_numbers n s cs).seconds ≡ length (pair_codes cs)
  unfolding clause_numbers
  clause_seconds = length-map (pair_codes cs) (λ o. o % max_trains)

  -- ---- the sizes

  pub clause_size : (i : ℕ) → i < n → nth (clause_numbers n s cs).sizes i ≡ clause_choices
  unfolding clause_numbers
  clause_size i h = get_or-replicate n i clause_choices 0 h

  pub choices_before_lem : (i : ℕ) → i ≤ n → choices_before (numbers_shape (clause_numbers n s cs)) i ≡ clause_choices * i
  choices_before_lem i h = omega (arith, sum_cong i (nth (clause_numbers n s cs).sizes) (λ t. clause_choices) (λ t l. clause_size t (omega arith)), sum_const i clause_choices)

  -- ---- the pairs

  pub clause_first_lem : (k : ℕ) → nth (clause_numbers n s cs).firsts k ≡ nth (pair_codes cs) k / max_trains
  unfolding clause_numbers
  clause_first_lem k = nth-map (λ o. o / max_trains) (pair_codes cs) k refl

  pub clause_second_lem : (k : ℕ) → nth (clause_numbers n s cs).seconds k ≡ nth (pair_codes cs) k % max_trains
  unfolding clause_numbers
  clause_second_lem k = nth-map (λ o. o % max_trains) (pair_codes cs) k refl

-- 'pairs come out ascending'
pub pairs_ascend : (cs : Clauses) (k : ℕ) → k + 1 < length (pair_codes cs) → nth (pair_codes cs) k < nth (pair_codes cs) (k + 1)
unfolding pair_codes
pairs_ascend cs = codes_ascend (named cs) max_codes

-- ascending codes are pairs 'strictly ascending by (i, j)'
code_before : (o p : ℕ) → o < p → before (o / max_trains) (o % max_trains) (p / max_trains) (p % max_trains) ≡ true
unfolding before
code_before o p h =
    dite (dec_lt (o / max_trains) (p / max_trains)) (λ (l : o / max_trains < p / max_trains). rw (lt-ltb (o / max_trains) (p / max_trains) l))
    (λ m. rw (le-ltb (o / max_trains) (p / max_trains) (omega arith), eq-eqb (o / max_trains) (p / max_trains) (omega arith), lt-ltb (o % max_trains) (p % max_trains) (omega arith)))

-- ---- the costs

-- one within its limit is a cost that a load may give, and not that of a forbidden entry
small_cost : (c : ℕ) → c ≤ max_cost → is_cost c ≡ true
unfolding is_cost
small_cost c h = rw (le-leb c max_cost h)

pub small_permits : (c : ℕ) → c ≤ max_cost → permits c ≡ true
small_permits c h = permitted c (λ e. omega arith)

pub small_paid : (c : ℕ) → c ≤ max_cost → paid c ≡ c
unfolding paid
small_paid c h = rw (small_permits c h)

-- a list whose entries are within the limit
within_most : (l : List ℕ) → costs_within l ≡ true → (o : ℕ) → nth l o ≤ max_cost
unfolding costs_within
within_most l e o =
    dite (dec_lt o (length l)) (λ (h : o < length l). leb-true (nth l o) max_cost (all_true (λ k. leb (nth l k) max_cost) (length l) e o h))
    (λ m. omega (arith, get_or-eq_default l 0 {n = o} (omega arith)))

module _ (n s : ℕ) (cs : Clauses) (within : sums_within (clause_numbers n s cs) ≡ true) where
  both_within : (costs_within (clause_numbers n s cs).choices ≡ true) × (costs_within (clause_numbers n s cs).entries ≡ true)
  unfolding sums_within
  both_within = both_true (costs_within (clause_numbers n s cs).choices) (costs_within (clause_numbers n s cs).entries) within

  pub choices_most : (o : ℕ) → nth (clause_numbers n s cs).choices o ≤ max_cost
  choices_most = within_most (clause_numbers n s cs).choices both_within.0

  pub entries_most : (o : ℕ) → nth (clause_numbers n s cs).entries o ≤ max_cost
  entries_most = within_most (clause_numbers n s cs).entries both_within.1

-- ---- the ranges

module _ {n s : ℕ} {cs : Clauses} (g : InLimits n s cs) where
  -- each pair's trains ascend and are there
  pub pair_trains : (k : ℕ) → k < length (pair_codes cs) → (nth (pair_codes cs) k / max_trains < nth (pair_codes cs) k % max_trains) × (nth (pair_codes cs) k % max_trains < n)
  unfolding pair_codes
  pair_trains k h = named_pair g.trains.1 g.clear (nth (pair_codes cs) k) (codes_pass (named cs) max_codes k h).passes

  -- two rows and two columns
  pub pair_lanes : (k : ℕ) → k < length (pair_codes cs)
      → (rows_of (numbers_shape (clause_numbers n s cs)) k ≡ clause_choices) × (columns_of (numbers_shape (clause_numbers n s cs)) k ≡ clause_choices)
  pair_lanes k h =
      let w = pair_trains k h in (
        ap (nth (clause_numbers n s cs).sizes) (clause_first_lem n s cs k) ∙ clause_size n s cs (nth (pair_codes cs) k / max_trains) (omega arith),
        ap (nth (clause_numbers n s cs).sizes) (clause_second_lem n s cs k) ∙ clause_size n s cs (nth (pair_codes cs) k % max_trains) w.1,
      )

  pub entries_before_lem : (k : ℕ) → k ≤ length (pair_codes cs) → entries_before (numbers_shape (clause_numbers n s cs)) k ≡ clause_entries * k
  entries_before_lem k h =
      omega (
        arith,
        sum_cong k (pair_entries (numbers_shape (clause_numbers n s cs))) (λ j. clause_entries) (λ j q. let w = pair_lanes j (omega arith) in ap₂ ◌*◌ w.0 w.1),
        sum_const k clause_entries,
      )

  pub in_range_lem : length (pair_codes cs) ≤ max_pairs → sums_within (clause_numbers n s cs) ≡ true → InRange (clause_numbers n s cs)
  unfolding clause_numbers
  in_range_lem few within =
      record {
        trains = omega (arith, clause_trains n s cs, g.trains);
        scale = g.scale;
        pairs = omega (arith, clause_pairs n s cs, clause_seconds n s cs);
        sizes = λ i h. omega (arith, clause_size n s cs i (omega (arith, clause_trains n s cs)));
        choices =
            list_length (choice_cost_at (cell_cost cs)) (clause_choices * n) ∙ sym (choices_before_lem n s cs n (omega arith))
            ∙ ap (choices_before (numbers_shape (clause_numbers n s cs))) (sym (clause_trains n s cs));
        entries =
            list_length (entry_cost_at (cell_cost cs) (pair_codes cs)) (clause_entries * length (pair_codes cs)) ∙ sym (entries_before_lem (length (pair_codes cs)) (omega arith))
            ∙ ap (entries_before (numbers_shape (clause_numbers n s cs))) (sym (clause_pairs n s cs));
        choice_costs = λ o. small_cost (nth (clause_numbers n s cs).choices o) (choices_most n s cs within o);
        entry_costs = λ o. small_cost (nth (clause_numbers n s cs).entries o) (entries_most n s cs within o);
        below = λ k h. omega (arith, pair_trains k (omega (arith, clause_pairs n s cs)), clause_first_lem n s cs k, clause_second_lem n s cs k, clause_trains n s cs);
        ascending = λ k h. rw (clause_first_lem n s cs k, clause_second_lem n s cs k, clause_first_lem n s cs (k + 1), clause_second_lem n s cs (k + 1)) (code_before (nth (pair_codes cs) k) (nth (pair_codes cs) (k + 1)) (pairs_ascend cs k (omega (arith, clause_pairs n s cs))));
      }
