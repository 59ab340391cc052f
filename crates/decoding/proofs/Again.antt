-- An accepted line, written again from its numbers, is that line, character for character: each field is the line from its place on, from the line's end to its beginning, and the pairs by the pairs left.
use mathlib.Core.Path.{◌≡◌, refl, sym, ap, ◌∙◌}
use mathlib.Core.Bool.{true}
use mathlib.Core.List.{List, []}
use mathlib.Core.Logic.{⊎_elim}
use Prim.Native.Nat.{ℕ, zero, suc, ◌+◌, ◌*◌, ◌<◌, ◌≤◌}
use native.Mathlib.Nat.{add-zero}
use native.Mathlib.Numerals.{add-one}
use native.Mathlib.Omega.{arith}
use lib.ListN.{length, drop, get_or-append}
use lib.Seq.{get_or-append-add, drop-length}
use Rattle.theory.specs.Lists.{nth}
use Rattle.theory.proofs.Range.{below_suc}
use Rattle.theory.proofs.Lists.{list_length, list_nth}
use Rattle.refusals.specs.Verdicts.{Fine}
use Rattle.frames.specs.Digits.{bytes}
use Rattle.frames.specs.Fields.{field, field_digits}
use Rattle.frames.specs.Runs.{run_digits}
use Rattle.frames.specs.Frames.{framed}
use Rattle.frames.proofs.Bytes.{Whole, framed_whole}
use Rattle.frames.proofs.RunDigits.{run_cong, run_list}
use Rattle.frames.proofs.There.{field_there, run_there}
use Rattle.lines.specs.declared.kind.Kind.TheVariants.{Load}
use Rattle.lines.specs.Kinds.{kind_number}
use Rattle.lines.specs.Layout.{kind_of, kind_width, number_in, end_of, further, count_width, scale_width, cost_width, trains_field, scale_field, size_field, choice_field, pair_count_field, entry_field, load_trains, load_size, choice_count, load_pairs, entry_count, pair_at, load_first, load_second}
use Rattle.lines.specs.Text.{pair_digits, pairs_digits, load_digits}
use Rattle.lines.proofs.Judged.{field-within}
use Rattle.lines.proofs.Pairs.{entries_at, pair_cost, pair_of, pairs_of}
use Rattle.kinds.specs.Load.{load_verdict}
use Rattle.kinds.proofs.LoadFields.{pair_next, pair_start}
use Rattle.kinds.proofs.LoadAccepted.{FineLoad, load_fine, load_sized, load_pair}
use Rattle.decoding.specs.Numbers.{entries_of, numbers_of}
use Rattle.decoding.proofs.Entries.{entries_more, entries_length, entries_mono}
use Rattle.decoding.proofs.LoadRange.{pair_sizes, entry_start}

-- cost o of pair k among the costs of the first n pairs
entries_nth : (l : List ℕ) (n k o : ℕ) → k < n → o < entry_count l (pair_at l k)
    → nth (entries_of l n) (length (entries_of l k) + o) ≡ number_in l (further (entry_field (pair_at l k)) o)
entries_nth l zero k o h q = absurd (omega arith)
entries_nth l (suc n) k o h q =
    let e = entries_more l n in
    rw (← add-one n, e)
    (⊎_elim
    (λ (d : k ≡ n). rw d (get_or-append-add (entries_of l n) _ o 0 ∙ list_nth _ 0 (entry_count l (pair_at l n)) o (rw d at q)))
    (λ (d : k < n).
    get_or-append (entries_of l n) _ 0 (length (entries_of l k) + o) (omega (arith, entries_length l k, entries_mono l (k + 1) n (omega arith)))
    ∙ entries_nth l n k o d q)
    (below_suc k n h))

module _ {l : List ℕ} (w : Whole l) (f : FineLoad l) where
  -- ---- the pairs

  -- pair k, before what stands behind it
  pair_again : (k : ℕ) → k < load_pairs l → pair_of (numbers_of l) k (drop (2 * pair_at l (k + 1)) l) ≡ drop (2 * pair_at l k) l
  unfolding pair_digits numbers_of
  pair_again k h =
      let x = numbers_of l in
      let at = pair_at l k in
      let n = entry_count l at in
      let p = load_pair f k h in
      let two : at + 2 ≡ at + 1 + 1 = omega arith in
      let costs : run_digits cost_width (entries_at x k) (pair_cost x k) (drop (2 * pair_at l (k + 1)) l) ≡ drop (2 * (at + 1 + 1)) l =
      rw (pair_sizes l f k h, pair_next l k, ← two)
      (run_cong cost_width n (pair_cost x k) (λ o. field l (at + 2 + cost_width * o) cost_width) (drop (2 * (at + 2 + cost_width * n)) l)
      (λ o q. rw (← entry_start l f k (omega arith)) (entries_nth l (load_pairs l) k o h q))
      ∙ run_there w (at + 2) cost_width n (omega (arith, p.next, pair_next l k))) in
      rw (
        costs,
        list_nth (load_first l) 0 (load_pairs l) k h,
        list_nth (load_second l) 0 (load_pairs l) k h,
        field_there w (at + 1) count_width (omega (arith, p.there)),
      )
      (field_there w at count_width (omega (arith, p.there)))

  -- the pairs left from pair k on
  pairs_again : (left k : ℕ) → k + left ≡ load_pairs l → pairs_of (numbers_of l) k left (drop (2 * pair_at l (load_pairs l)) l) ≡ drop (2 * pair_at l k) l
  unfolding pairs_digits
  pairs_again zero k e = rw (← e, add-zero)
  pairs_again (suc left) k e = rw (pairs_again left (k + 1) (omega arith)) (pair_again k (omega arith))

  -- ---- the line, from its end to its beginning

  count_there : end_of (pair_count_field l) ≤ bytes l
  count_there = (field-within l (pair_count_field l) refl f.count).0

  no_more : drop (2 * pair_at l (load_pairs l)) l ≡ []
  no_more = let e : 2 * pair_at l (load_pairs l) ≡ length l = omega (arith, f.ends, w.even) in rw e (drop-length l)

  from_pairs_lem : pairs_of (numbers_of l) 0 (length (numbers_of l).firsts) [] ≡ drop (2 * end_of (pair_count_field l)) l
  unfolding numbers_of
  from_pairs_lem =
      ap (λ (n : ℕ). pairs_of (numbers_of l) 0 n []) (list_length (load_first l) (load_pairs l))
      ∙ ap (pairs_of (numbers_of l) 0 (load_pairs l)) (sym no_more)
      ∙ pairs_again (load_pairs l) 0 (omega arith)
      ∙ ap (λ (at : ℕ). drop (2 * at) l) (pair_start l)

  from_count_lem : field_digits count_width (length (numbers_of l).firsts) (drop (2 * end_of (pair_count_field l)) l) ≡ drop (2 * (pair_count_field l).at) l
  unfolding numbers_of
  from_count_lem = rw (list_length (load_first l) (load_pairs l)) (field_there w (pair_count_field l).at count_width count_there)

  from_choices_lem : run_digits cost_width (length (numbers_of l).choices) (nth (numbers_of l).choices) (drop (2 * (pair_count_field l).at) l) ≡ drop (2 * (choice_field l).at) l
  unfolding numbers_of
  from_choices_lem =
      run_list cost_width (choice_count l) _ (drop (2 * (pair_count_field l).at) l) ∙ run_there w (choice_field l).at cost_width (choice_count l) (omega (arith, count_there))

  from_sizes_lem : run_digits count_width (length (numbers_of l).sizes) (nth (numbers_of l).sizes) (drop (2 * (choice_field l).at) l) ≡ drop (2 * size_field.at) l
  unfolding numbers_of
  from_sizes_lem =
      run_list count_width (load_trains l) (load_size l) (drop (2 * (choice_field l).at) l)
      ∙ run_there w size_field.at count_width (load_trains l) (omega (arith, (load_sized f).there))

  from_scale_lem : field_digits scale_width (numbers_of l).scale (drop (2 * size_field.at) l) ≡ drop (2 * scale_field.at) l
  unfolding numbers_of
  from_scale_lem = field_there w scale_field.at scale_width (omega (arith, (load_sized f).there))

  from_trains_lem : field_digits count_width (length (numbers_of l).sizes) (drop (2 * scale_field.at) l) ≡ drop (2 * trains_field.at) l
  unfolding numbers_of
  from_trains_lem = rw (list_length (load_size l) (load_trains l)) (field_there w trains_field.at count_width (omega (arith, (load_sized f).there)))

  -- a load line of the numbers of an accepted one is that very line
  digits_again : kind_of l ≡ kind_number Load → load_digits (numbers_of l) ≡ l
  unfolding load_digits
  digits_again kind =
      rw (from_pairs_lem, from_count_lem, from_choices_lem, from_sizes_lem, from_scale_lem, from_trains_lem)
      (ap (λ (k : ℕ). field_digits kind_width k (drop (2 * kind_width) l)) (sym kind) ∙ field_there w 0 kind_width (omega (arith, w.some)))

-- the same of a line that was judged fine
pub load_again : (l : List ℕ) → framed l ≡ true → kind_of l ≡ kind_number Load → load_verdict l ≡ Fine → load_digits (numbers_of l) ≡ l
load_again l e kind f = digits_again (framed_whole l e) (load_fine l f) kind
