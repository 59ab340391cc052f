-- A load line as its parts, one after the other: digits before other characters are those digits, then the others.
use mathlib.Core.Path.{◌≡◌, ◌∙◌}
use mathlib.Core.List.{List, [], ◌++◌, append_assoc}
use Prim.Native.Nat.{ℕ, ◌+◌, ◌*◌, ◌-◌, ◌<◌, ◌≤◌}
use native.Mathlib.Omega.{arith}
use lib.ListN.{length, take, drop, length-drop}
use lib.Seq.{length-take-le, get_or-take, get_or-drop}
use Rattle.theory.specs.Lists.{nth}
use Rattle.theory.proofs.Sum.{sum_none}
use Rattle.tables.specs.Block.{max_choices}
use Rattle.tables.specs.Counts.{rows_of, columns_of, pair_entries, entries_before}
use Rattle.tables.proofs.Counting.{entries_part}
use Rattle.operations.proofs.LoadTurns.{pair_lanes}
use Rattle.decoding.proofs.Size.{pairs-length}
use Rattle.replies.specs.Wrote.{Wrote}
use Rattle.tables.specs.Numbers.{Numbers, InRange}
use Rattle.frames.specs.Fields.{field_digits}
use Rattle.frames.specs.Runs.{run_digits}
use Rattle.frames.proofs.RunDigits.{run_first, run_cong}
use Rattle.lines.specs.declared.kind.Kind.TheVariants.{Load}
use Rattle.lines.specs.Kinds.{kind_number}
use Rattle.lines.specs.Layout.{kind_width, count_width, scale_width, cost_width, pair_width}
use Rattle.lines.specs.Text.{head_digits, pair_run, pair_digits, pairs_digits, text_shape, load_digits}
use Rattle.lines.proofs.Pairs.{pair_at_lem}
use Rattle.replies.proofs.Writing.{digits-first, wrote_end}

-- a pair as its fields, one after the other, behind what was written
pub pair_fields : (p : List ℕ) (i j count : ℕ) (f : ℕ → ℕ)
    → p ++ field_digits count_width i [] ++ field_digits count_width j [] ++ run_digits cost_width count f [] ≡ p ++ pair_run i j count f []
pair_fields p i j count f = simp (append_assoc, digits-first)

-- kind, n, s and sizes
pub head_fields : (s : ℕ) (sizes : List ℕ)
    → field_digits kind_width (kind_number Load) [] ++ field_digits count_width (length sizes) [] ++ field_digits scale_width s [] ++ run_digits count_width (length sizes) (nth sizes) []
    ≡ head_digits s sizes []
head_fields s sizes = simp digits-first

-- the whole line
pub load_fields : (x : Numbers)
    → head_digits x.scale x.sizes [] ++ run_digits cost_width (length x.choices) (nth x.choices) [] ++ field_digits count_width (length x.firsts) []
    ++ pairs_digits (text_shape x) x.entries 0 (length x.firsts) []
    ≡ load_digits x
unfolding load_digits
load_fields x = simp (digits-first, run_first)

-- ---- pairs

-- where the first k pairs end
pub pairs_end : (x : Numbers) (k : ℕ) {d b : List ℕ} {at r : ℕ} → Wrote d (take at d ++ pairs_digits (text_shape x) x.entries 0 k []) b r → at ≤ length d
    → r ≡ at + 2 * (pair_width * k + cost_width * entries_before (text_shape x) k)
pairs_end x k o h =
    let e : 0 + k ≡ k = omega arith in
    omega (arith, wrote_end (pairs_digits (text_shape x) x.entries 0 k []) o h, rw e at (pairs-length x k 0 []), sum_none (pair_entries (text_shape x)))

-- pair k: its trains are there, it has at most 8 rows and 8 columns, and its costs are there
pub pair_there : {x : Numbers} → InRange x → (k : ℕ) → k < length x.firsts
    → (nth x.firsts k < length x.sizes) × (nth x.seconds k < length x.sizes)
    × (rows_of (text_shape x) k ≤ max_choices) × (columns_of (text_shape x) k ≤ max_choices)
    × (entries_before (text_shape x) k + pair_entries (text_shape x) k ≤ length x.entries)
pair_there {x} r k h =
    let trains = r.below k h in
    let lanes = pair_lanes r k h in
    (omega arith, trains.1, lanes.0, lanes.1, omega (arith, r.entries, entries_part (text_shape x) k (length x.firsts) h))

-- as many numbers of a list as lie between two of its places
pub part_length : (l : List ℕ) (start count : ℕ) → start + count ≤ length l → length (take (start + count - start) (drop start l)) ≡ count
part_length l start count h =
    let e : start + count - start ≡ count = omega arith in
    rw e (length-take-le count (drop start l) (omega (arith, length-drop start l)))

-- pair k, its costs lent as a part of all
pub pair_part : (x : Numbers) (k start count : ℕ) {i j : ℕ} → i ≡ nth x.firsts k → j ≡ nth x.seconds k → start ≡ entries_before (text_shape x) k → count ≡ pair_entries (text_shape x) k
    → start + count ≤ length x.entries
    → pair_run i j (length (take (start + count - start) (drop start x.entries))) (nth (take (start + count - start) (drop start x.entries))) [] ≡ pair_digits (text_shape x) x.entries k []
pair_part x k start count {i} {j} p q s t h =
    let e : start + count - start ≡ count = omega arith in
    let same = run_cong cost_width count (nth (take count (drop start x.entries))) (λ o. nth x.entries (start + o)) []
    (λ o u. get_or-take count (drop start x.entries) o 0 u ∙ get_or-drop start x.entries o 0) in
    rw (part_length x.entries start count h, e, same) (pair_at_lem (text_shape x) x.entries k start count p q s t)
