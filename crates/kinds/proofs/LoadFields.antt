-- What is known of a load's fields once they were judged fine.
use mathlib.Core.Path.{◌≡◌, refl}
use mathlib.Core.Bool.{true, ◌&&◌, ◌||◌}
use mathlib.Core.List.{List}
use Prim.Native.Nat.{ℕ, ◌+◌, ◌*◌, ◌-◌, ◌<◌, ◌≤◌}
use native.Mathlib.Nat.{mul-le-mul}
use native.Mathlib.Numerals.{add-one}
use native.Mathlib.Omega.{arith}
use lib.Dec.{ltb, leb, eqb}
use borrow.Author.Tests.{ltb-true, leb-true}
use Rattle.theory.proofs.Range.{both_true}
use Rattle.theory.proofs.Sum.{sum_mono, sum_const}
use Rattle.units.specs.Units.{scale_min, scale_max}
use Rattle.refusals.specs.declared.Refusal.TheVariants.{Fields, Pair}
use Rattle.refusals.specs.Verdicts.{Fine, then, unless}
use Rattle.refusals.proofs.Verdicts.{then_fine, unless_fine}
use Rattle.tables.specs.Block.{max_trains, max_choices, entries_of_pair}
use Rattle.tables.specs.WellFormed.{before}
use Rattle.frames.specs.Digits.{bytes}
use Rattle.lines.specs.Layout.{trains_field, scale_field, size_field, load_trains, load_scale, load_size, choice_count, entry_count, pair_at, load_first, load_second, end_of, further, pair_count_field, entry_field}
use Rattle.lines.specs.Verdicts.{field_verdict, run_verdict}
use Rattle.lines.proofs.Judged.{field-within, run_there, run_within_lem}
use Rattle.kinds.specs.Load.{Sized, pair_ordered, pair_verdict, head_verdict, sizes_verdict}

-- ---- n, s and the sizes

pub record Head (l : List ℕ) : Type 0 where
  pub there : size_field.at ≤ bytes l
  pub trains : (1 ≤ load_trains l) × (load_trains l ≤ max_trains)
  pub scale : (scale_min ≤ load_scale l) × (load_scale l ≤ scale_max)

pub head_fine : (l : List ℕ) → head_verdict l ≡ Fine → Head l
unfolding head_verdict
head_fine l e =
    let f = then_fine (field_verdict l trains_field) (field_verdict l scale_field) e in
    let n = field-within l trains_field refl f.0 in
    let s = field-within l scale_field refl f.1 in
    record { there = s.0; trains = n.1; scale = s.1 }

pub sized : (l : List ℕ) → head_verdict l ≡ Fine → sizes_verdict l ≡ Fine → Sized l
sized l e f =
    let h = head_fine l e in
    let t = run_there l size_field (load_trains l) h.there f in
    record {
      trains = h.trains.1;
      there = omega (arith, t);
      sizes = run_within_lem l size_field (load_trains l) f refl;
    }

module _ {l : List ℕ} (s : Sized l) where
  pub choice_count_most : choice_count l ≤ max_trains * max_choices
  choice_count_most =
      omega (arith, sum_mono (load_trains l) (load_size l) (λ i. max_choices) (λ i h. (s.sizes i h).1), sum_const (load_trains l) max_choices, s.trains)

  pub entry_count_most : (i j : ℕ) → i < load_trains l → j < load_trains l → load_size l i * load_size l j ≤ entries_of_pair
  entry_count_most i j p q = mul-le-mul (s.sizes i p).1 (s.sizes j q).1

-- ---- the pairs

pub pair_next : (l : List ℕ) (k : ℕ) → pair_at l (k + 1) ≡ (further (entry_field (pair_at l k)) (entry_count l (pair_at l k))).at
unfolding pair_at
pair_next l k = rw add-one

pub pair_start : (l : List ℕ) → pair_at l 0 ≡ end_of (pair_count_field l)
unfolding pair_at
pair_start l = refl

-- a pair that was judged fine
pub record FinePair (l : List ℕ) (k : ℕ) : Type 0 where
  pub there : (entry_field (pair_at l k)).at ≤ bytes l
  pub ordered : pair_ordered l k ≡ true
  pub costs : run_verdict l (entry_field (pair_at l k)) (entry_count l (pair_at l k)) ≡ Fine
  pub next : pair_at l (k + 1) ≤ bytes l

pub pair_fine : (l : List ℕ) (k : ℕ) → pair_verdict l k ≡ Fine → FinePair l k
unfolding pair_verdict
pair_fine l k e =
    let costs = run_verdict l (entry_field (pair_at l k)) (entry_count l (pair_at l k)) in
    let f = then_fine (unless (leb (entry_field (pair_at l k)).at (bytes l)) Fields) (then (unless (pair_ordered l k) Pair) costs) e in
    let g = then_fine (unless (pair_ordered l k) Pair) costs f.1 in
    let there : (entry_field (pair_at l k)).at ≤ bytes l = leb-true _ _ (unless_fine _ Fields f.0) in
    record {
      there = there;
      ordered = unless_fine _ Pair g.0;
      costs = g.1;
      next = omega (arith, pair_next l k, run_there l (entry_field (pair_at l k)) (entry_count l (pair_at l k)) there g.1);
    }

-- its two trains
pub record Ordered (l : List ℕ) (k : ℕ) : Type 0 where
  pub first_below : load_first l k < load_second l k
  pub second_below : load_second l k < load_trains l
  pub after : (eqb k 0 || before (load_first l (k - 1)) (load_second l (k - 1)) (load_first l k) (load_second l k)) ≡ true

pub pair_ordered_lem : (l : List ℕ) (k : ℕ) → pair_ordered l k ≡ true → Ordered l k
unfolding pair_ordered
pair_ordered_lem l k e =
    let after = eqb k 0 || before (load_first l (k - 1)) (load_second l (k - 1)) (load_first l k) (load_second l k) in
    let f = both_true (ltb (load_first l k) (load_second l k)) (ltb (load_second l k) (load_trains l) && after) e in
    let g = both_true (ltb (load_second l k) (load_trains l)) after f.1 in
    record { first_below = ltb-true _ _ f.0; second_below = ltb-true _ _ g.0; after = g.1 }
