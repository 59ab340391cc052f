-- The runs of a certificate: they are all there, they say what the rule says, and once their sums are judged E fits. For every size.
use mathlib.Core.Path.{◌≡◌, refl, sym, ap, ap₂, ◌∙◌}
use mathlib.Core.Bool.{Bool, true, false, ◌&&◌, ◌||◌}
use mathlib.Core.List.{List}
use Prim.Native.Nat.{ℕ, ◌+◌, ◌*◌, ◌<◌, ◌≤◌}
use native.Mathlib.Nat.{one-mul, mul-le-mul, mul-le-mul_right}
use native.Mathlib.Omega.{arith}
use lib.Dec.{eqb}
use lib.IntN.{ℤ}
use lib.ListN.{length, get_or}
use borrow.Author.Tests.{eq-eqb, ne_eqb, eqb-true}
use Rattle.std.specs.Prelude.{Option, Some, None}
use Rattle.theory.specs.Sum.{sum}
use Rattle.theory.specs.Range.{all}
use Rattle.theory.proofs.Range.{all-zero, all_true, all_false, all_more, all_cong, both_true}
use Rattle.theory.proofs.Sum.{sum_none, sum_cong, sum_term, sum_more, sum_most, sum_front, sum-weighted, row_part}
use Rattle.tables.specs.LineLimits.{max_full_weight}
use Rattle.tables.specs.Block.{max_trains, max_choices, max_pairs, max_parts, figure, loaded_choice_place, loaded_entry_place, held_choice_place, held_entry_place, trains, pairs, constant, size, first, second}
use Rattle.tables.specs.WellFormed.{Study}
use Rattle.tables.specs.Plans.{shape_of, held_costs}
use Rattle.tables.specs.Counts.{pair_entries, choices_before}
use Rattle.tables.proofs.Counting.{choices_part, entries_part, rows_range, columns_range}
use Rattle.tables.proofs.Study.{trains_range, pairs_range, constant_range, size_range, first-below-trains, second-below-trains, held_choice_range, held_entry_range, choice_open_lem, entry_open_lem}
use Rattle.certificates.specs.Certify.{train_balanced, row_balanced, column_balanced, pair_balanced, balanced, choice_spared, entry_spared, spared, over_choices, over_pairs, weighted, weights_of, WeightsFor, ceiling}
use Rattle.certificates.specs.Runs.{run_sum, WeightRun, run_weighted, WeightsWithin, runs_match, WeightRuns, trains_match, entries_from, train_matches, pair_matches, pairs_match, train_weighted, trains_weighted, row_weighted, pair_weighted, pairs_weighted, TrainsWithin, RowsWithin, PairsWithin, weight_spared, train_spared, trains_spared, row_spared, pair_spared, pairs_spared, run_weighed, weighed}

-- ---- one run

-- the most that one run adds to E
abbrev pub max_run : ℕ
max_run = max_full_weight * max_parts

next_to : (l : List ℕ) (from n : ℕ) → run_sum l from 1 n ≡ sum n (λ k. get_or l (from + k) 0)
next_to l from n = sum_cong n _ _ (λ k h. rw one-mul)

-- a run whose weights sum to at most W, and any front of it
pub run_most : (l : List ℕ) (from : ℕ) (b : List ℤ) (place count : ℕ) → run_sum l from 1 count ≤ max_full_weight
    → ((k : ℕ) → k < count → figure b (place + k) ≤ max_parts) → (n : ℕ) → n ≤ count → run_weighted l from b place n ≤ max_run
run_most l from b place count h q n r =
    let w : ℕ → ℕ = λ k. get_or l (from + k) 0 in
    let e : sum n w ≤ max_full_weight = omega (arith, next_to l from count, sum_front n count w r) in
    omega (arith, sum-weighted n max_parts w (λ k. figure b (place + k)) (λ k p. q k (omega arith)), mul-le-mul_right max_parts e)

-- such a run so far, with its next weight
pub run_fits : {l : List ℕ} {from : ℕ} {b : List ℤ} {place count : ℕ} → WeightsWithin l from b place count → (k : ℕ) → k < count
    → run_weighted l from b place k + get_or l (from + k) 0 * figure b (place + k) ≤ max_run
run_fits {l} {from} {b} {place} {count} h k q =
    omega (arith, run_most l from b place count h.sum h.costs (k + 1) (omega arith), sum_more k (λ j. get_or l (from + j) 0 * figure b (place + j)))

-- a weight by its two tests
pub weight_open : {o : Bool} (v : ℕ) → o ≡ true → (o || eqb v 0) ≡ true
weight_open v e = rw e

pub weight_none : (o : Bool) {v : ℕ} → v ≤ 0 → (o || eqb v 0) ≡ true
weight_none true h = refl
weight_none false h = eq-eqb _ _ (omega arith)

pub weight_closed : {o : Bool} {v : ℕ} → o ≡ false → 0 < v → (o || eqb v 0) ≡ false
weight_closed e h = rw e (ne_eqb _ _ (λ q. omega arith))

-- ---- where the runs are

-- row a of a table of so many columns ends where the next begins
module _ {b : List ℤ} {l : List ℕ} (s : Study b) (w : WeightsFor b l) where
  run_of : (from step count : ℕ) → (1 ≤ count) × (count ≤ max_choices) → ((k : ℕ) → k < count → from + step * k < length l) → WeightRun l from step count
  run_of from step count h q = record { some = h.0; few = h.1; inside = q; small = λ k r. w.small (from + step * k) (q k r) }

  pub train_inside : (i : ℕ) → i < trains b → choices_before (shape_of b) i + size b i ≤ length l
  train_inside i h = omega (arith, choices_part (shape_of b) i (trains b) h, w.count)

  pub train_run : (i : ℕ) → i < trains b → WeightRun l (choices_before (shape_of b) i) 1 (size b i)
  train_run i h = run_of (choices_before (shape_of b) i) 1 (size b i) (size_range s i h) (λ k q. omega (arith, train_inside i h))

  module _ (k : ℕ) (h : k < pairs b) where
    pub pair_inside : entries_from b k + pair_entries (shape_of b) k ≤ length l
    pair_inside = omega (arith, entries_part (shape_of b) k (pairs b) h, w.count)

    pub row_inside : (a : ℕ) → a < size b (first b k) → entries_from b k + size b (second b k) * a + size b (second b k) ≤ length l
    row_inside a q = omega (arith, pair_inside, row_part (size b (first b k)) (size b (second b k)) a q)

    pub rows_runs : WeightRuns l (entries_from b k) (size b (second b k)) 1 (size b (second b k)) (choices_before (shape_of b) (first b k)) (size b (first b k))
    rows_runs =
        record {
          each = λ a q. run_of _ 1 (size b (second b k)) (columns_range s k h) (λ c r. omega (arith, row_inside a q));
          inside = train_inside (first b k) (first-below-trains s k h);
        }

    pub columns_runs : WeightRuns l (entries_from b k) 1 (size b (second b k)) (size b (first b k)) (choices_before (shape_of b) (second b k)) (size b (second b k))
    columns_runs =
        record {
          each = λ c q. run_of _ (size b (second b k)) (size b (first b k)) (rows_range s k h) (λ a r. omega (arith, row_inside a r));
          inside = train_inside (second b k) (second-below-trains s k h);
        }

-- ---- the most that each run adds, once its sum is judged

module _ {b : List ℤ} (s : Study b) where
  train_costs_lem : (i : ℕ) → i < trains b → (a : ℕ) → a < size b i → figure b (held_choice_place i 0 + a) ≤ max_parts
  train_costs_lem i h a q = let e : held_choice_place i 0 + a ≡ held_choice_place i a = omega arith in rw e (held_choice_range s i a h q).high

  row_costs_lem : (k : ℕ) → k < pairs b → (a : ℕ) → a < size b (first b k) → (c : ℕ) → c < size b (second b k) → figure b (held_entry_place k a 0 + c) ≤ max_parts
  row_costs_lem k h a q c r = let e : held_entry_place k a 0 + c ≡ held_entry_place k a c = omega arith in rw e (held_entry_range s k h a c q r).high

  -- the trains below n
  pub trains_most : (l : List ℕ) (n : ℕ) → n ≤ trains b → ((i : ℕ) → i < n → run_sum l (choices_before (shape_of b) i) 1 (size b i) ≤ max_full_weight) → sum n (train_weighted b l) ≤ n * max_run
  unfolding train_weighted
  trains_most l n q t =
      sum_most n max_run (train_weighted b l)
      (λ i r. run_most l _ b _ (size b i) (t i r) (train_costs_lem i (omega arith)) (size b i) (omega arith))

module _ {b : List ℤ} {l : List ℕ} (s : Study b) where
  pub train_weights : WeightsFor b l → (i : ℕ) → i < trains b → run_sum l (choices_before (shape_of b) i) 1 (size b i) ≤ max_full_weight → WeightsWithin l (choices_before (shape_of b) i) b (held_choice_place i 0) (size b i)
  train_weights w i h t =
      record {
        inside = train_inside s w i h;
        places = omega (arith, s.whole, trains_range s, size_range s i h);
        sum = t;
        costs = train_costs_lem s i h;
      }

  pub trains_next : TrainsWithin b l → (i : ℕ) → i < trains b → sum i (train_weighted b l) + train_weighted b l i ≤ max_trains * max_run
  trains_next t i h = omega (arith, trains_most s l (i + 1) (omega arith) (λ j q. t.sums j (omega arith)), sum_more i (train_weighted b l), trains_range s)

  module _ (k : ℕ) (h : k < pairs b) (t : RowsWithin b l k) where
    pub row_weights : WeightsFor b l → (a : ℕ) → a < size b (first b k)
        → WeightsWithin l (entries_from b k + size b (second b k) * a) b (held_entry_place k a 0) (size b (second b k))
    row_weights w a q =
        record {
          inside = row_inside s w k h a q;
          places = omega (arith, s.whole, pairs_range s, rows_range s k h, columns_range s k h);
          sum = t.sums a q;
          costs = row_costs_lem s k h a q;
        }

    pub rows_most : (n : ℕ) → n ≤ size b (first b k) → sum n (row_weighted b l k) ≤ n * max_run
    unfolding row_weighted
    rows_most n q =
        sum_most n max_run (row_weighted b l k)
        (λ a r. run_most l _ b _ (size b (second b k)) (t.sums a (omega arith)) (row_costs_lem s k h a (omega arith)) (size b (second b k)) (omega arith))

  -- the pairs below n
  pub pairs_most : (n : ℕ) → n ≤ pairs b → ((k : ℕ) → k < n → RowsWithin b l k) → sum n (pair_weighted b l) ≤ n * (max_choices * max_run)
  unfolding pair_weighted
  pairs_most n q t =
      sum_most n (max_choices * max_run) (pair_weighted b l)
      (λ k r.
      omega (
        arith,
        rows_most k (omega arith) (t k r) (size b (first b k)) (omega arith),
        size_range s (first b k) (first-below-trains s k (omega arith)),
      ))

  pub pairs_next : PairsWithin b l → (k : ℕ) → k < pairs b → sum k (pair_weighted b l) + pair_weighted b l k ≤ max_pairs * (max_choices * max_run)
  pairs_next t k h = omega (arith, pairs_most (k + 1) (omega arith) (λ j q. t.rows j (omega arith)), sum_more k (pair_weighted b l), pairs_range s)

  -- a row sums to its choice's weight, and that is one of its train's
  pub rows-within : TrainsWithin b l → (k : ℕ) → k < pairs b → pair_matches b l k ≡ true → RowsWithin b l k
  unfolding pair_matches
  rows-within t k h e =
      record {
        sums = λ a r.
            let i = first b k in
            let m : run_sum l (entries_from b k + size b (second b k) * a) 1 (size b (second b k)) ≡ get_or l (choices_before (shape_of b) i + a) 0 = eqb-true _ _ (all_true _ (size b i) (both_true _ _ e).0 a r) in
            omega (
              arith,
              sum_term (size b i) a (λ c. get_or l (choices_before (shape_of b) i + c) 0) r,
              next_to l (choices_before (shape_of b) i) (size b i),
              t.sums i (first-below-trains s k h),
            );
      }

  pub pairs-within : TrainsWithin b l → pairs_match b l ≡ true → PairsWithin b l
  unfolding pairs_match
  pairs-within t e = record { rows = λ k h. rows-within t k h (all_true (pair_matches b l) (pairs b) e k h) }

-- ---- E, where nothing forbidden is weighed

pub part_given : (t : Bool) (x : ℕ) {y : ℕ} → weighed t x ≡ Some y → (t ≡ true) × (y ≡ x)
part_given true x e = (refl, cc)
part_given false x e = let z : ◌≡◌ {A = ℕ} 0 1 = cc in absurd (omega arith)

pub none_given : (t : Bool) (x : ℕ) → weighed t x ≡ None → t ≡ false
none_given true x e = let z : ◌≡◌ {A = ℕ} 0 1 = cc in absurd (omega arith)
none_given false x e = refl

-- the parts so far with the next one, and the first that is not there
module _ (p : ℕ → Bool) (f : ℕ → ℕ) {r : Option ℕ} where
  pub next_part : (k : ℕ) {s x : ℕ} → s ≡ sum k f → all k p ≡ true → r ≡ weighed (p k) (f k) → r ≡ Some x → (s + x ≡ sum (k + 1) f) × (all (k + 1) p ≡ true)
  next_part k e t g h =
      let q = part_given (p k) (f k) (sym g ∙ h) in
      (omega (arith, q.1, sum_more k f), all_more p k t q.0)

  pub no_part : (n k : ℕ) → k < n → r ≡ weighed (p k) (f k) → r ≡ None → weighed (all n p) (sum n f) ≡ None
  no_part n k h g e = rw (all_false p n k h (none_given (p k) (f k) (sym g ∙ e)))

-- H and T are open at the same entries, so that T says which weights are spared
module _ {b : List ℤ} (s : Study b) (l : List ℕ) where
  pub train_open : (i : ℕ) → i < trains b → run_weighed l (choices_before (shape_of b) i) b (held_choice_place i 0) (size b i) ≡ weighed (train_spared b l i) (train_weighted b l i)
  unfolding train_spared train_weighted
  train_open i h = ap (λ (t : Bool). weighed t (run_weighted l (choices_before (shape_of b) i) b (held_choice_place i 0) (size b i))) (all_cong (size b i) _ _ same)
    where
      same : (a : ℕ) → a < size b i
          → weight_spared b (held_choice_place i 0 + a) (get_or l (choices_before (shape_of b) i + a) 0) ≡ weight_spared b (loaded_choice_place i 0 + a) (get_or l (choices_before (shape_of b) i + a) 0)
      same a q =
          let e : held_choice_place i 0 + a ≡ held_choice_place i a = omega arith in
          let f : loaded_choice_place i 0 + a ≡ loaded_choice_place i a = omega arith in
          rw (e, f, choice_open_lem s i a h q)

  pub row_open : (k : ℕ) → k < pairs b → (a : ℕ) → a < size b (first b k)
      → run_weighed l (entries_from b k + size b (second b k) * a) b (held_entry_place k a 0) (size b (second b k)) ≡ weighed (row_spared b l k a) (row_weighted b l k a)
  unfolding row_spared row_weighted
  row_open k h a q = ap (λ (t : Bool). weighed t (run_weighted l (entries_from b k + size b (second b k) * a) b (held_entry_place k a 0) (size b (second b k)))) (all_cong (size b (second b k)) _ _ same)
    where
      same : (c : ℕ) → c < size b (second b k)
          → weight_spared b (held_entry_place k a 0 + c) (get_or l (entries_from b k + size b (second b k) * a + c) 0)
          ≡ weight_spared b (loaded_entry_place k a 0 + c) (get_or l (entries_from b k + size b (second b k) * a + c) 0)
      same c r =
          let e : held_entry_place k a 0 + c ≡ held_entry_place k a c = omega arith in
          let f : loaded_entry_place k a 0 + c ≡ loaded_entry_place k a c = omega arith in
          rw (e, f, entry_open_lem s k h a c q r)

-- ---- the runs say what the rule says

module _ (b : List ℤ) (full_weight : ℕ) (l : List ℕ) where
  trains_same : all (trains b) (train_balanced (shape_of b) (weights_of b full_weight l)) ≡ trains_match b l full_weight
  unfolding train_balanced trains_match
  trains_same = all_cong (trains b) _ _ (λ i h. ap (λ (v : ℕ). eqb v full_weight) (sym (next_to l (choices_before (shape_of b) i) (size b i))))

  pair_same : (k : ℕ) → pair_balanced (shape_of b) (weights_of b full_weight l) k ≡ pair_matches b l k
  unfolding pair_balanced row_balanced column_balanced pair_matches
  pair_same k =
      ap₂ ◌&&◌
      (all_cong (size b (first b k)) _ _ (λ a h. ap (λ (v : ℕ). eqb v (get_or l (choices_before (shape_of b) (first b k) + a) 0))
      (sum_cong (size b (second b k)) _ _ (λ c q. ap (λ (p : ℕ). get_or l p 0) (omega arith)))))
      (all_cong (size b (second b k)) _ _ (λ c h. ap (λ (v : ℕ). eqb v (get_or l (choices_before (shape_of b) (second b k) + c) 0))
      (sum_cong (size b (first b k)) _ _ (λ a q. ap (λ (p : ℕ). get_or l p 0) (omega arith)))))

  pub balanced_runs : balanced (shape_of b) (weights_of b full_weight l) ≡ trains_match b l full_weight && pairs_match b l
  unfolding balanced pairs_match
  balanced_runs = ap₂ ◌&&◌ trains_same (all_cong (pairs b) _ _ (λ k h. pair_same k))

  pub weighted_runs : ceiling b (weights_of b full_weight l) ≡ full_weight * constant b + trains_weighted b l + pairs_weighted b l
  unfolding weighted over_choices over_pairs held_costs trains_weighted train_weighted pairs_weighted pair_weighted row_weighted
  weighted_runs =
      ap₂ (λ (x y : ℕ). full_weight * constant b + x + y)
      (sum_cong (trains b) _ _ (λ i h. sum_cong (size b i) _ _ (λ a q. ap (λ (p : ℕ). get_or l (choices_before (shape_of b) i + a) 0 * figure b p) (omega arith))))
      (sum_cong (pairs b) _ _ (λ k h. sum_cong (size b (first b k)) _ _ (λ a q. sum_cong (size b (second b k)) _ _ (λ c r. ap₂ (λ (o p : ℕ). get_or l o 0 * figure b p) (omega arith) (omega arith)))))

  pub spared_runs : spared (shape_of b) (weights_of b full_weight l) ≡ trains_spared b l && pairs_spared b l
  unfolding spared choice_spared entry_spared trains_spared train_spared pairs_spared pair_spared row_spared
  spared_runs =
      ap₂ ◌&&◌
      (all_cong (trains b) _ _ (λ i h. all_cong (size b i) _ _ (λ a q. ap (λ (p : ℕ). weight_spared b p (get_or l (choices_before (shape_of b) i + a) 0)) (omega arith))))
      (all_cong (pairs b) _ _ (λ k h. all_cong (size b (first b k)) _ _ (λ a q. all_cong (size b (second b k)) _ _ (λ c r. ap₂ (λ (o p : ℕ). weight_spared b p (get_or l o 0)) (omega arith) (omega arith)))))

-- a pair's runs, by the numbers that the code reads
pub pair_by_runs : (b : List ℤ) (l : List ℕ) (k : ℕ) {i j rows columns from x y : ℕ} → i ≡ first b k → j ≡ second b k → rows ≡ size b i → columns ≡ size b j
    → from ≡ entries_from b k → x ≡ choices_before (shape_of b) i → y ≡ choices_before (shape_of b) j
    → pair_matches b l k ≡ runs_match l from columns 1 columns x rows && runs_match l from 1 columns rows y columns
unfolding pair_matches
pair_by_runs b l k p q r t f u v = rw (r, t, f, u, v, p, q)

-- ---- what the walks over trains and pairs answer

-- once the trains are judged, none sums to more than W
pub trains-within : {b : List ℤ} {l : List ℕ} {full_weight : ℕ} → full_weight ≤ max_full_weight → trains_match b l full_weight ≡ true → TrainsWithin b l
unfolding trains_match
trains-within {b} {l} {full_weight} h e = record { sums = λ i q. let t : run_sum l (choices_before (shape_of b) i) 1 (size b i) ≡ full_weight = eqb-true _ _ (all_true (train_matches b l full_weight) (trains b) e i q) in omega arith }

-- so E fits
pub floor_most : {b : List ℤ} {full_weight : ℕ} → Study b → full_weight ≤ max_full_weight → full_weight * constant b ≤ max_run
floor_most s h = mul-le-mul h (constant_range s)

pub parts_most : {b : List ℤ} (l : List ℕ) {full_weight : ℕ} → Study b → full_weight ≤ max_full_weight → trains_match b l full_weight ≡ true → pairs_match b l ≡ true
    → trains_weighted b l + pairs_weighted b l ≤ max_trains * max_run + max_pairs * (max_choices * max_run)
unfolding trains_weighted pairs_weighted
parts_most {b} l s h e f =
    let t : TrainsWithin b l = trains-within h e in
    omega (
      arith,
      trains_most s l (trains b) (omega arith) t.sums,
      pairs_most s (pairs b) (omega arith) (pairs-within s t f).rows,
      trains_range s,
      pairs_range s,
    )

-- ---- what each function needs, for `grind`

pub ruleset sums = (sum_none, sum_more)

pub ruleset pair_runs = (first-below-trains, second-below-trains, trains_range, pairs_range, rows_runs, columns_runs)

pub ruleset pair_walk = (sum_none, sum_more, all-zero, all_more, pair_inside)

pub ruleset run_walk = (sum_none, sum_more, all-zero, all_more, run_fits, weight_open, weight_none)

pub ruleset train_part = (trains_range, train_weights, train_open)

pub ruleset parts = (sum_none, sum_more, all-zero, all_more, part_given, trains_next, pairs_next)

pub ruleset row_places = (pairs_range, rows_range, row_inside)

pub ruleset judged = (balanced_runs, both_true, trains-within, pairs-within, spared_runs, weighted_runs, part_given, none_given, floor_most, parts_most)
