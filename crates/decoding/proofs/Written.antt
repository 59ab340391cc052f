-- A load line of numbers in range, read again: each field reads back, so the line is judged fine and gives those numbers. What stands in the line is known from its beginning on, pair by pair.
use mathlib.Core.Path.{◌≡◌, refl, sym, ap, ◌∙◌}
use mathlib.Core.Bool.{true, ◌||◌}
use mathlib.Core.List.{List, [], ◌++◌}
use mathlib.Core.Logic.{dite}
use Prim.Native.Nat.{ℕ, zero, suc, ◌+◌, ◌*◌, ◌-◌, ◌<◌, ◌≤◌}
use native.Mathlib.Decide.{ℕ_discrete}
use native.Mathlib.Nat.{sub-zero}
use native.Mathlib.Numerals.{add-one}
use native.Mathlib.Omega.{arith}
use lib.Dec.{eqb}
use lib.ListN.{length, take}
use lib.Seq.{take-add, take_all}
use borrow.Author.Tests.{lt-ltb, le-leb, eq-eqb, ne_eqb}
use Rattle.theory.specs.Lists.{list_of, nth}
use Rattle.theory.proofs.Lists.{list_is, list_part}
use Rattle.theory.proofs.Sum.{sum_cong, sum_none, sum_more, sum_part}
use Rattle.refusals.specs.Verdicts.{Fine}
use Rattle.refusals.proofs.Verdicts.{then_both, first-all}
use Rattle.tables.specs.Counts.{entries_before}
use Rattle.tables.specs.Numbers.{Numbers, numbers, is_cost, numbers_shape, InRange}
use Rattle.tables.specs.WellFormed.{before}
use Rattle.frames.specs.Digits.{bytes}
use Rattle.frames.specs.Fields.{field_digits}
use Rattle.frames.specs.Runs.{run_digits}
use Rattle.frames.proofs.Stands.{Stands, stands_whole, stands_field, past_field, field_inside, stands_run, past_run}
use Rattle.lines.specs.declared.kind.Kind.TheVariants.{Load}
use Rattle.lines.specs.Kinds.{kind_number}
use Rattle.lines.specs.Layout.{kind_of, kind_width, number_in, end_of, further, numbers_in, count_width, scale_width, cost_width, cost_field, trains_field, scale_field, size_field, choice_field, pair_count_field, first_field, second_field, entry_field, load_trains, load_scale, load_size, choice_count, load_pairs, entry_count, pair_at, load_first, load_second}
use Rattle.lines.specs.Text.{pair_digits, pairs_digits, load_digits}
use Rattle.lines.specs.Verdicts.{field_verdict, run_verdict, end_verdict}
use Rattle.lines.proofs.Obeyed.{obeys_between, cost_fits, stands_fine, run_stands_fine, end_judged}
use Rattle.lines.proofs.Pairs.{entries_at, pair_cost, pair_of, pairs_of}
use Rattle.kinds.specs.Load.{pair_ordered, pair_verdict, pairs_verdict, head_verdict, sizes_verdict, choices_verdict, pair_count_verdict, rest_verdict, load_verdict}
use Rattle.kinds.proofs.LoadFields.{pair_next, pair_start}
use Rattle.decoding.specs.Numbers.{entries_of, numbers_of}
use Rattle.decoding.proofs.Entries.{entries_none, entries_more}

-- ---- the parts of a line, each with all that stands behind it

abbrev from_pairs : Numbers → List ℕ
from_pairs x = pairs_of x 0 (length x.firsts) []

abbrev from_count : Numbers → List ℕ
from_count x = field_digits count_width (length x.firsts) (from_pairs x)

abbrev from_choices : Numbers → List ℕ
from_choices x = run_digits cost_width (length x.choices) (nth x.choices) (from_count x)

abbrev from_sizes : Numbers → List ℕ
from_sizes x = run_digits count_width (length x.sizes) (nth x.sizes) (from_choices x)

abbrev from_scale : Numbers → List ℕ
from_scale x = field_digits scale_width x.scale (from_sizes x)

abbrev from_trains : Numbers → List ℕ
from_trains x = field_digits count_width (length x.sizes) (from_scale x)

-- where the choices' costs begin, and where m stands
abbrev choices_at : Numbers → ℕ
choices_at x = (further size_field (length x.sizes)).at

abbrev count_at_lem : Numbers → ℕ
count_at_lem x = choices_at x + cost_width * length x.choices

module _ (x : Numbers) where
  stands_kind : Stands (load_digits x) 0 (field_digits kind_width (kind_number Load) (from_trains x))
  unfolding load_digits
  stands_kind = stands_whole (load_digits x)

  stands_trains : Stands (load_digits x) trains_field.at (from_trains x)
  stands_trains = past_field kind_width (kind_number Load) (from_trains x) stands_kind

  stands_scale : Stands (load_digits x) scale_field.at (from_scale x)
  stands_scale = past_field count_width (length x.sizes) (from_scale x) stands_trains

  stands_sizes : Stands (load_digits x) size_field.at (from_sizes x)
  stands_sizes = past_field scale_width x.scale (from_sizes x) stands_scale

  stands_choices : Stands (load_digits x) (choices_at x) (from_choices x)
  stands_choices = past_run count_width (length x.sizes) (nth x.sizes) (from_choices x) stands_sizes

  stands_count : Stands (load_digits x) (count_at_lem x) (from_count x)
  stands_count = past_run cost_width (length x.choices) (nth x.choices) (from_count x) stands_choices

  stands_pairs : Stands (load_digits x) (count_at_lem x + count_width) (from_pairs x)
  stands_pairs = past_field count_width (length x.firsts) (from_pairs x) stands_count

  -- the line is a load
  pub load_kind : kind_of (load_digits x) ≡ kind_number Load
  load_kind = stands_field kind_width (kind_number Load) (from_trains x) stands_kind (omega arith)

module _ {x : Numbers} (r : InRange x) where
  -- ---- each field of the head

  trains_back : load_trains (load_digits x) ≡ length x.sizes
  trains_back = stands_field count_width (length x.sizes) (from_scale x) (stands_trains x) (omega (arith, r.trains.1))

  scale_back : load_scale (load_digits x) ≡ x.scale
  scale_back = stands_field scale_width x.scale (from_sizes x) (stands_scale x) (omega (arith, r.scale.1))

  size_back : (i : ℕ) → i < length x.sizes → load_size (load_digits x) i ≡ nth x.sizes i
  size_back i h = stands_run count_width (length x.sizes) (nth x.sizes) (from_choices x) (stands_sizes x) i h (omega (arith, (r.sizes i h).1))

  choices_at_lem : (choice_field (load_digits x)).at ≡ choices_at x
  choices_at_lem = ap (λ (n : ℕ). (further size_field n).at) trains_back

  choice_count_lem : choice_count (load_digits x) ≡ length x.choices
  choice_count_lem = rw trains_back (sum_cong (length x.sizes) (load_size (load_digits x)) (nth x.sizes) size_back ∙ sym r.choices)

  choice_back : (o : ℕ) → o < length x.choices → number_in (load_digits x) (further (cost_field (choices_at x)) o) ≡ nth x.choices o
  choice_back o h =
      stands_run cost_width (length x.choices) (nth x.choices) (from_count x) (stands_choices x) o h (cost_fits (nth x.choices o) (r.choice_costs o))

  count_at : (pair_count_field (load_digits x)).at ≡ count_at_lem x
  count_at = omega (arith, choices_at_lem, choice_count_lem)

  pairs_back : load_pairs (load_digits x) ≡ length x.firsts
  pairs_back = rw count_at (stands_field count_width (length x.firsts) (from_pairs x) (stands_count x) (omega (arith, r.pairs.0)))

  -- ---- one pair, wherever it stands

  module _ (k at : ℕ) (rest : List ℕ) (h : k < length x.firsts) (s : Stands (load_digits x) at (pair_of x k rest)) where
    abbrev costs : List ℕ
    costs = run_digits cost_width (entries_at x k) (pair_cost x k) rest

    stands_first : Stands (load_digits x) (first_field at).at (field_digits count_width (nth x.firsts k) (field_digits count_width (nth x.seconds k) costs))
    unfolding pair_digits
    stands_first = s

    stands_second : Stands (load_digits x) (second_field at).at (field_digits count_width (nth x.seconds k) costs)
    stands_second = past_field count_width (nth x.firsts k) (field_digits count_width (nth x.seconds k) costs) stands_first

    behind : end_of (second_field at) ≡ (entry_field at).at
    behind = omega arith

    stands_costs : Stands (load_digits x) (entry_field at).at costs
    stands_costs = rw behind at (past_field count_width (nth x.seconds k) costs stands_second)

    first_back : number_in (load_digits x) (first_field at) ≡ nth x.firsts k
    first_back =
        stands_field count_width (nth x.firsts k) (field_digits count_width (nth x.seconds k) costs) stands_first (omega (arith, r.below k h, r.trains.1))

    second_back : number_in (load_digits x) (second_field at) ≡ nth x.seconds k
    second_back = stands_field count_width (nth x.seconds k) costs stands_second (omega (arith, r.below k h, r.trains.1))

    entries_back : entry_count (load_digits x) at ≡ entries_at x k
    entries_back =
        rw (first_back, second_back, size_back (nth x.firsts k) (omega (arith, r.below k h)), size_back (nth x.seconds k) (r.below k h).1)

    in_range_lem : (o : ℕ) → is_cost (pair_cost x k o) ≡ true
    in_range_lem o = r.entry_costs (entries_before (numbers_shape x) k + o)

    cost_back : (o : ℕ) → o < entries_at x k → number_in (load_digits x) (further (entry_field at) o) ≡ pair_cost x k o
    cost_back o q = stands_run cost_width (entries_at x k) (pair_cost x k) rest stands_costs o q (cost_fits (pair_cost x k o) (in_range_lem o))

    past_pair : Stands (load_digits x) (further (entry_field at) (entry_count (load_digits x) at)).at rest
    past_pair = rw entries_back (past_run cost_width (entries_at x k) (pair_cost x k) rest stands_costs)

    costs_fine : run_verdict (load_digits x) (entry_field at) (entry_count (load_digits x) at) ≡ Fine
    costs_fine =
        rw entries_back
        (run_stands_fine (entry_field at) (entries_at x k) (pair_cost x k) rest stands_costs
        (λ o q. cost_fits (pair_cost x k o) (in_range_lem o)) (λ o q. in_range_lem o))

    pair_there : (entry_field at).at ≤ bytes (load_digits x)
    pair_there = rw behind at (field_inside count_width (nth x.seconds k) costs stands_second)

  -- ---- every pair

  -- from pair k on stand the pairs left
  pairs_stand : (k : ℕ) → k ≤ length x.firsts → Stands (load_digits x) (pair_at (load_digits x) k) (pairs_of x k (length x.firsts - k) [])
  unfolding pairs_digits
  pairs_stand zero h = rw (pair_start (load_digits x), count_at, sub-zero) (stands_pairs x)
  pairs_stand (suc k) h =
      let m = length x.firsts in
      let rest = pairs_of x (k + 1) (m - (k + 1)) [] in
      let d : m - k ≡ suc (m - (k + 1)) = omega arith in
      let s : Stands (load_digits x) (pair_at (load_digits x) k) (pair_of x k rest) = rw d at (pairs_stand k (omega arith)) in
      rw (← add-one k, pair_next (load_digits x) k) (past_pair k (pair_at (load_digits x) k) rest (omega arith) s)

  -- pair k stands before the pairs behind it
  pair_stands : (k : ℕ) → k < length x.firsts
      → Stands (load_digits x) (pair_at (load_digits x) k) (pair_of x k (pairs_of x (k + 1) (length x.firsts - (k + 1)) []))
  unfolding pairs_digits
  pair_stands k h =
      let m = length x.firsts in
      let d : m - k ≡ suc (m - (k + 1)) = omega arith in
      rw d at (pairs_stand k (omega arith))

  first_at : (k : ℕ) → k < length x.firsts → load_first (load_digits x) k ≡ nth x.firsts k
  first_at k h = first_back k (pair_at (load_digits x) k) _ h (pair_stands k h)

  second_at : (k : ℕ) → k < length x.firsts → load_second (load_digits x) k ≡ nth x.seconds k
  second_at k h = second_back k (pair_at (load_digits x) k) _ h (pair_stands k h)

  entries_at_lem : (k : ℕ) → k < length x.firsts → entry_count (load_digits x) (pair_at (load_digits x) k) ≡ entries_at x k
  entries_at_lem k h = entries_back k (pair_at (load_digits x) k) _ h (pair_stands k h)

  -- behind the last pair stands nothing
  ends_at : pair_at (load_digits x) (length x.firsts) ≡ bytes (load_digits x)
  unfolding pairs_digits
  ends_at =
      let m = length x.firsts in
      let z : m - m ≡ 0 = omega arith in
      let s : Stands (load_digits x) (pair_at (load_digits x) m) [] = rw z at (pairs_stand m (omega arith)) in
      omega (arith, s.inside)

  -- ---- judged fine

  head_judged : head_verdict (load_digits x) ≡ Fine
  unfolding head_verdict
  head_judged =
      let n = length x.sizes in
      then_both (field_verdict (load_digits x) trains_field) (field_verdict (load_digits x) scale_field)
      (stands_fine trains_field n (from_scale x) (stands_trains x) (omega (arith, r.trains.1)) (obeys_between count_width n r.trains))
      (stands_fine scale_field x.scale (from_sizes x) (stands_scale x) (omega (arith, r.scale.1)) (obeys_between scale_width x.scale r.scale))

  sizes_judged : sizes_verdict (load_digits x) ≡ Fine
  sizes_judged =
      rw trains_back
      (run_stands_fine size_field (length x.sizes) (nth x.sizes) (from_choices x) (stands_sizes x)
      (λ i h. omega (arith, (r.sizes i h).1))
      (λ i h. obeys_between count_width (nth x.sizes i) (r.sizes i h)))

  choices_judged : choices_verdict (load_digits x) ≡ Fine
  choices_judged =
      rw (choice_count_lem, choices_at_lem)
      (run_stands_fine (cost_field (choices_at x)) (length x.choices) (nth x.choices) (from_count x) (stands_choices x)
      (λ o h. cost_fits (nth x.choices o) (r.choice_costs o)) (λ o h. r.choice_costs o))

  count-judged : pair_count_verdict (load_digits x) ≡ Fine
  count-judged =
      let m = length x.firsts in
      stands_fine (pair_count_field (load_digits x)) m (from_pairs x) (rw count_at (stands_count x)) (omega (arith, r.pairs.0))
      (obeys_between count_width m (omega arith, r.pairs.0))

  pair_after : (k : ℕ) → k < length x.firsts
      → (eqb k 0 || before (load_first (load_digits x) (k - 1)) (load_second (load_digits x) (k - 1)) (nth x.firsts k) (nth x.seconds k)) ≡ true
  pair_after k h =
      dite (ℕ_discrete k 0) (λ (e : k ≡ 0). rw (eq-eqb k 0 e))
      (λ n. let e : (k - 1) + 1 ≡ k = omega arith in
      let q : k - 1 < length x.firsts = omega arith in
      rw (ne_eqb k 0 n, first_at (k - 1) q, second_at (k - 1) q) (rw e at (r.ascending (k - 1) (omega arith))))

  pair_ordered_lem : (k : ℕ) → k < length x.firsts → pair_ordered (load_digits x) k ≡ true
  unfolding pair_ordered
  pair_ordered_lem k h = rw (first_at k h, second_at k h, trains_back, lt-ltb _ _ (r.below k h).0, lt-ltb _ _ (r.below k h).1) (pair_after k h)

  pair_judged : (k : ℕ) → k < length x.firsts → pair_verdict (load_digits x) k ≡ Fine
  unfolding pair_verdict
  pair_judged k h =
      let at = pair_at (load_digits x) k in
      rw (le-leb (entry_field at).at (bytes (load_digits x)) (pair_there k at _ h (pair_stands k h)), pair_ordered_lem k h) (costs_fine k at _ h (pair_stands k h))

  rest_judged : rest_verdict (load_digits x) (load_pairs (load_digits x)) ≡ Fine
  unfolding rest_verdict
  rest_judged =
      let m = length x.firsts in
      rw pairs_back
      (then_both (pairs_verdict (load_digits x) m) (end_verdict (bytes (load_digits x)) (pair_at (load_digits x) m))
      (first-all (pair_verdict (load_digits x)) m pair_judged) (end_judged (bytes (load_digits x)) (pair_at (load_digits x) m) ends_at))

  -- a load line of numbers in range is judged fine
  pub load_judged : load_verdict (load_digits x) ≡ Fine
  unfolding load_verdict
  load_judged = rw (head_judged, sizes_judged, choices_judged, count-judged) rest_judged

  -- ---- and gives those numbers

  -- the costs of the first k pairs
  entries_taken : (k : ℕ) → k ≤ length x.firsts → entries_of (load_digits x) k ≡ take (entries_before (numbers_shape x) k) x.entries
  entries_taken zero h = rw (entries_none (load_digits x), sum_none (entries_at x))
  entries_taken (suc k) h =
      let start = entries_before (numbers_shape x) k in
      let at = pair_at (load_digits x) k in
      let q : k < length x.firsts = omega arith in
      rw (
        ← add-one k,
        entries_more (load_digits x) k,
        entries_taken k (omega arith),
        sum_more k (entries_at x),
        take-add start (entries_at x k) x.entries,
        entries_at_lem k q,
      )
      (ap (λ (p : List ℕ). take start x.entries ++ p)
      (list_part (entries_at x k) _ x.entries start (omega (arith, r.entries, sum_part (length x.firsts) k (entries_at x) q)) (cost_back k at _ q (pair_stands k q))))

  pub numbers_back : numbers_of (load_digits x) ≡ x
  unfolding numbers_of
  numbers_back =
      let l = load_digits x in
      let sizes : list_of (load_trains l) (load_size l) ≡ x.sizes = rw trains_back (list_is (length x.sizes) (load_size l) x.sizes refl size_back) in
      let choices : numbers_in l (choice_field l) (choice_count l) ≡ x.choices =
      rw (choice_count_lem, choices_at_lem) (list_is (length x.choices) _ x.choices refl choice_back) in
      let firsts : list_of (load_pairs l) (load_first l) ≡ x.firsts = rw pairs_back (list_is (length x.firsts) (load_first l) x.firsts refl first_at) in
      let seconds : list_of (load_pairs l) (load_second l) ≡ x.seconds = rw pairs_back (list_is (length x.firsts) (load_second l) x.seconds r.pairs.1 second_at) in
      let entries : entries_of l (load_pairs l) ≡ x.entries =
      rw pairs_back (entries_taken (length x.firsts) (omega arith) ∙ rw (← r.entries) (take_all (length x.entries) x.entries (omega arith))) in
      λ i. numbers (scale_back i) (sizes i) (choices i) (firsts i) (seconds i) (entries i)
