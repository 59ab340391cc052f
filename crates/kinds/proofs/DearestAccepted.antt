-- What is known of a line of kind 0F once its fields were judged fine: how many sizes it gives, within which limits, and where it ends. A line of which that is known is judged fine.
use mathlib.Core.Path.{◌≡◌, refl, sym}
use mathlib.Core.List.{List}
use Prim.Native.Nat.{ℕ, ◌+◌, ◌*◌, ◌<◌, ◌≤◌}
use native.Mathlib.Omega.{arith}
use lib.ListN.{length}
use Rattle.theory.specs.Lists.{nth}
use Rattle.theory.proofs.Lists.{list_length, list_nth}
use Rattle.refusals.specs.Verdicts.{Fine, then}
use Rattle.refusals.proofs.Verdicts.{then_fine, then_both}
use Rattle.tables.specs.Block.{max_trains, max_choices}
use Rattle.frames.specs.Digits.{bytes}
use Rattle.lines.specs.Layout.{numbers_in, end_of, further, count_width, trains_field, load_trains, dearest_size_field, dearest_size}
use Rattle.lines.specs.Verdicts.{field_verdict, run_verdict, end_verdict}
use Rattle.lines.proofs.Judged.{field-within, run_within_lem, end_fine}
use Rattle.lines.proofs.Obeyed.{obeys_between, field-judged, run_judged, end_judged}
use Rattle.kinds.specs.Dearest.{dearest_verdict}

-- n, which is judged first, is there, and within its limits
pub count_read : (l : List ℕ) → field_verdict l trains_field ≡ Fine → (end_of trains_field ≤ bytes l) × ((1 ≤ load_trains l) × (load_trains l ≤ max_trains))
count_read l e = field-within l trains_field refl e

pub record FineDearest (l : List ℕ) : Type 0 where
  pub trains : (1 ≤ load_trains l) × (load_trains l ≤ max_trains)
  pub size : (i : ℕ) → i < load_trains l → (1 ≤ dearest_size l i) × (dearest_size l i ≤ max_choices)
  pub ends : bytes l ≡ (further dearest_size_field (load_trains l)).at

pub dearest_fine : (l : List ℕ) → dearest_verdict l ≡ Fine → FineDearest l
unfolding dearest_verdict
dearest_fine l e =
    let n = load_trains l in
    let end = end_verdict (bytes l) (further dearest_size_field n).at in
    let v = then_fine (field_verdict l trains_field) (then (run_verdict l dearest_size_field n) end) e in
    let w = then_fine (run_verdict l dearest_size_field n) end v.1 in
    record {
      trains = (count_read l v.0).1;
      size = run_within_lem l dearest_size_field n w.0 refl;
      ends = sym (end_fine (bytes l) (further dearest_size_field n).at w.1);
    }

pub dearest_intro : {l : List ℕ} → FineDearest l → dearest_verdict l ≡ Fine
unfolding dearest_verdict
dearest_intro {l} f =
    let n = load_trains l in
    then_both (field_verdict l trains_field) _
    (field-judged l trains_field (record { there = omega (arith, f.ends); right = obeys_between count_width n f.trains }))
    (then_both (run_verdict l dearest_size_field n) _
    (run_judged l dearest_size_field n (λ k h. record { there = omega (arith, f.ends); right = obeys_between count_width (dearest_size l k) (f.size k h) }))
    (end_judged (bytes l) (further dearest_size_field n).at (sym f.ends)))

module _ {l : List ℕ} (f : FineDearest l) where
  -- its sizes stand in the line
  pub dearest_sizes_there : 2 * (dearest_size_field.at + count_width * load_trains l) ≤ length l
  dearest_sizes_there = omega (arith, f.ends)

  -- and listed they are as many, within the same limits
  abbrev sizes : List ℕ
  sizes = numbers_in l dearest_size_field (load_trains l)

  pub sizes_count : (1 ≤ length sizes) × (length sizes ≤ max_trains)
  sizes_count = rw (list_length (dearest_size l) (load_trains l)) f.trains

  pub sizes_each : (i : ℕ) → i < length sizes → (1 ≤ nth sizes i) × (nth sizes i ≤ max_choices)
  sizes_each i h =
      let q : i < load_trains l = omega (arith, h, list_length (dearest_size l) (load_trains l)) in
      rw (list_nth (dearest_size l) 0 (load_trains l) i q) (f.size i q)
