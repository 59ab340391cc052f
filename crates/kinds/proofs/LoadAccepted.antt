-- What is known of a load once its fields were judged fine: which fields are there, and where the line ends.
use mathlib.Core.Path.{◌≡◌}
use mathlib.Core.List.{List}
use Prim.Native.Nat.{ℕ, ◌<◌}
use Rattle.refusals.specs.Verdicts.{Fine, then}
use Rattle.refusals.proofs.Verdicts.{then_fine, first_fine}
use Rattle.frames.specs.Digits.{bytes}
use Rattle.lines.specs.Layout.{pair_at, load_pairs}
use Rattle.lines.specs.Verdicts.{end_verdict}
use Rattle.lines.proofs.Judged.{end_fine}
use Rattle.kinds.specs.Load.{Sized, head_verdict, sizes_verdict, choices_verdict, pair_count_verdict, pair_verdict, pairs_verdict, rest_verdict, load_verdict, costs_verdict}
use Rattle.kinds.proofs.LoadFields.{sized, FinePair, pair_fine}

pub record FineLoad (l : List ℕ) : Type 0 where
  pub head : head_verdict l ≡ Fine
  pub sizes : sizes_verdict l ≡ Fine
  pub choices : choices_verdict l ≡ Fine
  pub count : pair_count_verdict l ≡ Fine
  pub pairs : pairs_verdict l (load_pairs l) ≡ Fine
  pub ends : pair_at l (load_pairs l) ≡ bytes l

pub load_fine : (l : List ℕ) → load_verdict l ≡ Fine → FineLoad l
unfolding load_verdict rest_verdict
load_fine l e =
    let h = then_fine (head_verdict l) (then (sizes_verdict l) (costs_verdict l)) e in
    let s = then_fine (sizes_verdict l) (costs_verdict l) h.1 in
    let c = then_fine (choices_verdict l) (then (pair_count_verdict l) (rest_verdict l (load_pairs l))) s.1 in
    let m = then_fine (pair_count_verdict l) (rest_verdict l (load_pairs l)) c.1 in
    let p = then_fine (pairs_verdict l (load_pairs l)) (end_verdict (bytes l) (pair_at l (load_pairs l))) m.1 in
    record { head = h.0; sizes = s.0; choices = c.0; count = m.0; pairs = p.0; ends = end_fine (bytes l) (pair_at l (load_pairs l)) p.1 }

pub load_sized : {l : List ℕ} → FineLoad l → Sized l
load_sized {l} f = sized l f.head f.sizes

-- each pair of an accepted load
pub load_pair : {l : List ℕ} → FineLoad l → (k : ℕ) → k < load_pairs l → FinePair l k
load_pair {l} f k h = pair_fine l k (first_fine (pair_verdict l) (load_pairs l) f.pairs k h)
