-- How long a load line of numbers in range is, and that it is a frame: every field has the characters of its width, pairs by the pairs left, and the longest line is the one that every limit allows.
use mathlib.Core.Path.{◌≡◌, refl}
use mathlib.Core.Bool.{true}
use mathlib.Core.List.{List, []}
use Prim.Native.Nat.{ℕ, zero, suc, ◌+◌, ◌*◌, ◌<◌, ◌≤◌}
use native.Mathlib.Nat.{add-zero, mul-le-mul}
use native.Mathlib.Omega.{arith}
use lib.ListN.{length}
use Rattle.theory.specs.Lists.{nth}
use Rattle.theory.specs.Range.{pass}
use Rattle.theory.proofs.Sum.{sum_none, sum_more, sum_most}
use Rattle.tables.specs.Block.{max_trains, max_choices, max_pairs, entries_of_pair}
use Rattle.tables.specs.Counts.{entries_before}
use Rattle.tables.specs.Numbers.{Numbers, numbers_shape, InRange}
use Rattle.frames.specs.Fields.{field_digits}
use Rattle.frames.specs.Runs.{run_digits}
use Rattle.frames.specs.Frames.{max_characters, all_digits, Framed}
use Rattle.frames.proofs.Parts.{make_framed}
use Rattle.frames.proofs.RoundTrip.{digits-length, digits-digits}
use Rattle.frames.proofs.RunDigits.{run_length, run_digits_lem}
use Rattle.lines.specs.declared.kind.Kind.TheVariants.{Load}
use Rattle.lines.specs.Kinds.{kind_number}
use Rattle.lines.specs.Layout.{kind_width, count_width, scale_width, cost_width, pair_width}
use Rattle.lines.specs.Text.{pair_digits, pairs_digits, load_digits, line_bytes, load_bytes}
use Rattle.lines.proofs.Pairs.{entries_at, pair_cost, pair_of, pairs_of, pair_run_length}

module _ (x : Numbers) where
  pub pair_length : (k : ℕ) (rest : List ℕ) → length (pair_of x k rest) ≡ 2 * (pair_width + cost_width * entries_at x k) + length rest
  unfolding pair_digits
  pair_length k rest = pair_run_length (nth x.firsts k) (nth x.seconds k) (entries_at x k) (pair_cost x k) rest

  -- with the costs of the pairs before pair k on the other side
  pub pairs-length : (left k : ℕ) (rest : List ℕ)
      → length (pairs_of x k left rest) + 2 * (cost_width * entries_before (numbers_shape x) k)
      ≡ 2 * (pair_width * left + cost_width * entries_before (numbers_shape x) (k + left)) + length rest
  unfolding pairs_digits
  pairs-length zero k rest = rw add-zero (omega arith)
  pairs-length (suc left) k rest =
      let e : k + suc left ≡ k + 1 + left = omega arith in
      rw e (omega (arith, pair_length k (pairs_of x (k + 1) left rest), pairs-length left (k + 1) rest, sum_more k (entries_at x)))

  pairs-digits : (left k : ℕ) (rest : List ℕ) → all_digits rest ≡ true → all_digits (pairs_of x k left rest) ≡ true
  unfolding pairs_digits pair_digits
  pairs-digits zero k rest e = e
  pairs-digits (suc left) k rest e =
      digits-digits count_width (nth x.firsts k) _
      (digits-digits count_width (nth x.seconds k) _
      (run_digits_lem cost_width (entries_at x k) (pair_cost x k) (pairs_of x (k + 1) left rest) (pairs-digits left (k + 1) rest e)))

  none_digits : all_digits [] ≡ true
  unfolding all_digits pass
  none_digits = refl

  load_digits_lem : all_digits (load_digits x) ≡ true
  unfolding load_digits
  load_digits_lem =
      digits-digits kind_width (kind_number Load) _
      (digits-digits count_width (length x.sizes) _
      (digits-digits scale_width x.scale _
      (run_digits_lem count_width (length x.sizes) (nth x.sizes) _
      (run_digits_lem cost_width (length x.choices) (nth x.choices) _
      (digits-digits count_width (length x.firsts) _ (pairs-digits (length x.firsts) 0 [] none_digits))))))

module _ {x : Numbers} (r : InRange x) where
  pub load_length : length (load_digits x) ≡ 2 * load_bytes x
  unfolding load_digits
  load_length =
      let n = length x.sizes in
      let m = length x.firsts in
      let pairs = pairs_of x 0 m [] in
      let count = field_digits count_width m pairs in
      let choices = run_digits cost_width (length x.choices) (nth x.choices) count in
      let sizes = run_digits count_width n (nth x.sizes) choices in
      let scale = field_digits scale_width x.scale sizes in
      let e : 0 + m ≡ m = omega arith in
      omega (
        arith,
        digits-length kind_width (kind_number Load) (field_digits count_width n scale),
        digits-length count_width n scale,
        digits-length scale_width x.scale sizes,
        run_length count_width n (nth x.sizes) choices,
        run_length cost_width (length x.choices) (nth x.choices) count,
        digits-length count_width m pairs,
        rw e at (pairs-length x m 0 []),
        sum_none (entries_at x),
        r.entries,
      )

  -- no more costs than the limits allow
  choices_most : length x.choices ≤ max_trains * max_choices
  choices_most = omega (arith, r.choices, sum_most (length x.sizes) max_choices (nth x.sizes) (λ i h. (r.sizes i h).1), r.trains.1)

  pub entries_most : length x.entries ≤ max_pairs * entries_of_pair
  entries_most = omega (arith, r.entries, sum_most (length x.firsts) entries_of_pair (entries_at x) each, r.pairs.0)
    where
      each : (k : ℕ) → k < length x.firsts → entries_at x k ≤ entries_of_pair
      each k h = let b = r.below k h in mul-le-mul (r.sizes (nth x.firsts k) (omega arith)).1 (r.sizes (nth x.seconds k) b.1).1

  -- none of these lines is longer than the one that every limit allows
  pub load_longest : length (load_digits x) ≤ 2 * line_bytes max_trains (max_trains * max_choices) max_pairs (max_pairs * entries_of_pair)
  load_longest = omega (arith, load_length, choices_most, entries_most, r.trains.1, r.pairs.0)

  -- none of them is over the limit in 2
  pub load_most : length (load_digits x) ≤ max_characters
  load_most = omega (arith, load_longest)

  -- a load line of numbers in range is a frame
  pub load_framed : Framed (load_digits x) (load_bytes x)
  load_framed =
      record {
        digits = make_framed (load_digits x) (omega (arith, load_length)) (omega (arith, load_length)) (load_digits_lem x);
        whole = omega (arith, load_length);
        short = load_most;
      }
