-- The numbers of an accepted load are in range: what a load asks of the numbers that it stores.
use mathlib.Core.Path.{◌≡◌, refl, sym, ap, ◌∙◌}
use mathlib.Core.Bool.{true, false}
use mathlib.Core.List.{List, ◌++◌}
use mathlib.Core.Logic.{dite}
use Prim.Native.Nat.{ℕ, zero, suc, ◌+◌, ◌*◌, ◌-◌, ◌<◌, ◌≤◌}
use native.Mathlib.Decide.{dec_lt}
use native.Mathlib.Numerals.{add-one}
use native.Mathlib.Omega.{arith}
use lib.Dec.{eqb}
use lib.ListN.{length, get_or-append}
use lib.Seq.{get_or-append-add}
use borrow.Author.Tests.{ne_eqb}
use Rattle.theory.specs.Lists.{list_of, nth}
use Rattle.theory.proofs.Sum.{sum_none, sum_more, sum_cong}
use Rattle.theory.proofs.Lists.{list_length, list_nth, list_past}
use Rattle.refusals.specs.Verdicts.{Fine}
use Rattle.tables.specs.Counts.{entries_before}
use Rattle.tables.specs.Numbers.{InRange, is_cost, list_shape}
use Rattle.tables.specs.WellFormed.{before}
use Rattle.lines.specs.Layout.{cost_field, load_trains, load_size, choice_count, load_pairs, entry_count, pair_at, load_first, load_second, number_in, further, numbers_in, choice_field, pair_count_field, entry_field}
use Rattle.lines.specs.Verdicts.{run_verdict}
use Rattle.lines.proofs.Judged.{field-within, run_fine}
use Rattle.kinds.specs.Load.{load_verdict}
use Rattle.kinds.proofs.LoadFields.{head_fine, Ordered, pair_ordered_lem}
use Rattle.kinds.proofs.LoadAccepted.{FineLoad, load_fine, load_sized, load_pair}
use Rattle.decoding.specs.Numbers.{entries_of, numbers_of}
use Rattle.decoding.proofs.Entries.{entries_none, entries_more, entries_length}

-- 0 is a cost
none_cost : is_cost 0 ≡ true
unfolding is_cost
none_cost = refl

-- each entry of a run of costs that was judged fine, and 0 past its end
run_costs : (l : List ℕ) (at n : ℕ) → run_verdict l (cost_field at) n ≡ Fine → (o : ℕ) → is_cost (nth (numbers_in l (cost_field at) n) o) ≡ true
run_costs l at n e o =
    let f : ℕ → ℕ = λ k. number_in l (further (cost_field at) k) in
    dite (dec_lt o n)
    (λ (q : o < n). rw (list_nth f 0 n o q) (run_fine l (cost_field at) n e o q).right)
    (λ (q : o < n → ⊥). rw (list_past f 0 n o (omega (arith, q))) none_cost)

-- entries of two lists that have a limit, one after the other
append_costs : (p q : List ℕ) → ((o : ℕ) → is_cost (nth p o) ≡ true) → ((o : ℕ) → is_cost (nth q o) ≡ true) → (o : ℕ) → is_cost (nth (p ++ q) o) ≡ true
append_costs p q f g o =
    dite (dec_lt o (length p))
    (λ (h : o < length p). rw (get_or-append p q 0 o h) (f o))
    (λ (h : o < length p → ⊥).
    let e : o ≡ length p + (o - length p) = omega (arith, h) in
    rw (ap (nth (p ++ q)) e, get_or-append-add p q (o - length p) 0) (g (o - length p)))

module _ (l : List ℕ) (f : FineLoad l) where
  ordered : (k : ℕ) → k < load_pairs l → Ordered l k
  ordered k h = pair_ordered_lem l k (load_pair f k h).ordered

  -- the costs of the first k pairs
  entry_costs : (k : ℕ) → k ≤ load_pairs l → (o : ℕ) → is_cost (nth (entries_of l k) o) ≡ true
  entry_costs zero h o = rw (entries_none l) none_cost
  entry_costs (suc k) h o =
      rw (← add-one k, entries_more l k)
      (append_costs (entries_of l k) _ (entry_costs k (omega arith)) (run_costs l (entry_field (pair_at l k)).at (entry_count l (pair_at l k)) (load_pair f k (omega arith)).costs) o)

  -- the two sizes of pair k, read off the lists
  pub pair_sizes : (k : ℕ) → k < load_pairs l
      → nth (list_of (load_trains l) (load_size l)) (nth (list_of (load_pairs l) (load_first l)) k) * nth (list_of (load_trains l) (load_size l)) (nth (list_of (load_pairs l) (load_second l)) k)
      ≡ entry_count l (pair_at l k)
  pair_sizes k h =
      let o = ordered k h in
      rw (
        list_nth (load_first l) 0 (load_pairs l) k h,
        list_nth (load_second l) 0 (load_pairs l) k h,
        list_nth (load_size l) 0 (load_trains l) (load_first l k) (omega (arith, o.first_below, o.second_below)),
        list_nth (load_size l) 0 (load_trains l) (load_second l k) o.second_below,
      )

  pub entry_start : (k : ℕ) → k ≤ load_pairs l
      → length (entries_of l k) ≡ entries_before (list_shape (list_of (load_trains l) (load_size l)) (list_of (load_pairs l) (load_first l)) (list_of (load_pairs l) (load_second l))) k
  entry_start zero h = rw (entries_none l) (sym (sum_none _))
  entry_start (suc k) h =
      rw (← add-one k, entries_length l k, entry_start k (omega arith), ← pair_sizes k (omega arith)) (sym (sum_more k _))

  -- pair k comes before the next
  ascends : (k : ℕ) → k + 1 < load_pairs l
      → before (nth (list_of (load_pairs l) (load_first l)) k) (nth (list_of (load_pairs l) (load_second l)) k)
      (nth (list_of (load_pairs l) (load_first l)) (k + 1)) (nth (list_of (load_pairs l) (load_second l)) (k + 1)) ≡ true
  ascends k h =
      let e : (k + 1) - 1 ≡ k = omega arith in
      let z : eqb (k + 1) 0 ≡ false = ne_eqb (k + 1) 0 (λ q. omega arith) in
      let g : k < load_pairs l = omega arith in
      rw (
        list_nth (load_first l) 0 (load_pairs l) k g,
        list_nth (load_second l) 0 (load_pairs l) k g,
        list_nth (load_first l) 0 (load_pairs l) (k + 1) h,
        list_nth (load_second l) 0 (load_pairs l) (k + 1) h,
      )
      (rw (z, e) at (ordered (k + 1) h).after)

-- the numbers of an accepted load are as many as its sizes say, and in range
pub load_in_range : (l : List ℕ) → load_verdict l ≡ Fine → InRange (numbers_of l)
unfolding numbers_of
load_in_range l e =
    let f = load_fine l e in
    let h = head_fine l f.head in
    let s = load_sized f in
    let sizes = list_length (load_size l) (load_trains l) in
    let firsts = list_length (load_first l) (load_pairs l) in
    let seconds = list_length (load_second l) (load_pairs l) in
    record {
      trains = omega (arith, sizes, h.trains);
      scale = h.scale;
      pairs = (omega (arith, firsts, field-within l (pair_count_field l) refl f.count), seconds ∙ sym firsts);
      sizes = λ i q. let g : i < load_trains l = omega (arith, sizes) in rw (list_nth (load_size l) 0 (load_trains l) i g) (s.sizes i g);
      choices =
          list_length _ (choice_count l)
          ∙ rw sizes (sum_cong (load_trains l) (load_size l) (nth (list_of (load_trains l) (load_size l))) (λ i q. sym (list_nth (load_size l) 0 (load_trains l) i q)));
      entries = rw firsts (entry_start l f (load_pairs l) (omega arith));
      choice_costs = run_costs l (choice_field l).at (choice_count l) f.choices;
      entry_costs = entry_costs l f (load_pairs l) (omega arith);
      below = λ k q.
          let g : k < load_pairs l = omega (arith, firsts) in
          let o = ordered l f k g in
          rw (list_nth (load_first l) 0 (load_pairs l) k g, list_nth (load_second l) 0 (load_pairs l) k g, sizes) (o.first_below, o.second_below);
      ascending = λ k q. ascends l f k (omega (arith, firsts));
    }
