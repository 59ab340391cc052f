-- Document 01, '01 load' and 'What is declined': the first reason to decline a load, and the request that it makes.
use Rattle.std.specs.Prelude.{Bool, ◌&&◌, ◌||◌, List, ℕ, ◌-◌, ◌<◌, ◌≤◌, leb, ltb, eqb}
use Rattle.refusals.specs.declared.Refusal.TheVariants.{Fields, Pair}
use Rattle.refusals.specs.Verdicts.{Verdict, then, first_of, unless}
use Rattle.tables.specs.Block.{max_trains, max_choices}
use Rattle.tables.specs.WellFormed.{before}
use Rattle.frames.specs.Digits.{bytes}
use Rattle.lines.specs.declared.request.Request.{Request}
use Rattle.lines.specs.declared.request.Request.TheVariants.{Load}
use Rattle.lines.specs.Layout.{end_of, trains_field, scale_field, size_field, choice_field, pair_count_field, entry_field, load_trains, load_scale, load_size, choice_count, load_pairs, entry_count, pair_at, load_first, load_second}
use Rattle.lines.specs.Verdicts.{field_verdict, run_verdict, end_verdict, field_run}

-- 8: 'i not below j, j not below n, pair not after the last'
unfoldable pub pair_ordered : List ℕ → ℕ → Bool
pair_ordered l k =
    ltb (load_first l k) (load_second l k)
    && (ltb (load_second l k) (load_trains l) && (eqb k 0 || before (load_first l (k - 1)) (load_second l (k - 1)) (load_first l k) (load_second l k)))

-- pair k: i and j, judged 'after both', then its costs
unfoldable pub pair_verdict : List ℕ → ℕ → Verdict
pair_verdict l k =
    then (unless (leb (entry_field (pair_at l k)).at (bytes l)) Fields)
    (then (unless (pair_ordered l k) Pair) (run_verdict l (entry_field (pair_at l k)) (entry_count l (pair_at l k))))

abbrev pub pairs_verdict : List ℕ → ℕ → Verdict
pairs_verdict l m = first_of m (pair_verdict l)

-- n and s
unfoldable pub head_verdict : List ℕ → Verdict
head_verdict l = then (field_verdict l trains_field) (field_verdict l scale_field)

abbrev pub sizes_verdict : List ℕ → Verdict
sizes_verdict l = run_verdict l size_field (load_trains l)

abbrev pub choices_verdict : List ℕ → Verdict
choices_verdict l = run_verdict l (choice_field l) (choice_count l)

abbrev pub pair_count_verdict : List ℕ → Verdict
pair_count_verdict l = field_verdict l (pair_count_field l)

-- m pairs, and no bytes left over
unfoldable pub rest_verdict : List ℕ → ℕ → Verdict
rest_verdict l m = then (pairs_verdict l m) (end_verdict (bytes l) (pair_at l m))

-- the choices' costs, m, and the pairs
abbrev pub costs_verdict : List ℕ → Verdict
costs_verdict l = then (choices_verdict l) (then (pair_count_verdict l) (rest_verdict l (load_pairs l)))

unfoldable pub load_verdict : List ℕ → Verdict
load_verdict l = then (head_verdict l) (then (sizes_verdict l) (costs_verdict l))

-- a load's n and sizes are there and in range: what the functions ask that read further
pub record Sized (l : List ℕ) : Type 0 where
  pub trains : load_trains l ≤ max_trains
  pub there : (choice_field l).at ≤ bytes l
  pub sizes : (i : ℕ) → i < load_trains l → (1 ≤ load_size l i) × (load_size l i ≤ max_choices)

abbrev pub load_request : List ℕ → Request
load_request l =
    Load (record {
      scale = load_scale l;
      sizes = field_run size_field.at (load_trains l);
      choices = field_run (choice_field l).at (choice_count l);
      pairs = field_run (end_of (pair_count_field l)) (load_pairs l);
    })
