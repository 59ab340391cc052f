-- The pairs of a load line: how long they are, and that pairs behind pairs are pairs, by the pairs left.
use mathlib.Core.Path.{◌≡◌, refl, sym, ap, ◌∙◌}
use mathlib.Core.List.{List, [], ◌++◌, append_assoc}
use Prim.Native.Nat.{ℕ, zero, suc, ◌+◌, ◌*◌}
use native.Mathlib.Nat.{add-zero, zero-add}
use native.Mathlib.Numerals.{add-one}
use native.Mathlib.Omega.{arith}
use lib.ListN.{length}
use Rattle.theory.specs.Lists.{nth}
use Rattle.tables.specs.Plans.{Shape}
use Rattle.tables.specs.Counts.{pair_entries, entries_before}
use Rattle.tables.specs.Numbers.{Numbers}
use Rattle.frames.specs.Fields.{field_digits}
use Rattle.frames.specs.Runs.{run_digits}
use Rattle.frames.proofs.RoundTrip.{digits_append, digits-length}
use Rattle.frames.proofs.RunDigits.{run_append, run_length}
use Rattle.lines.specs.declared.kind.Kind.TheVariants.{Load}
use Rattle.lines.specs.Kinds.{kind_number}
use Rattle.lines.specs.Layout.{kind_width, count_width, scale_width, cost_width, pair_width, size_field}
use Rattle.lines.specs.Text.{head_digits, pair_run, pair_digits, pairs_digits, text_shape}

-- how many costs pair k has, cost o of pair k, pair k and the pairs from k on, before other characters
abbrev pub entries_at : Numbers → ℕ → ℕ
entries_at x = pair_entries (text_shape x)

abbrev pub pair_cost : Numbers → ℕ → ℕ → ℕ
pair_cost x k o = nth x.entries (entries_before (text_shape x) k + o)

abbrev pub pair_of : Numbers → ℕ → List ℕ → List ℕ
pair_of x = pair_digits (text_shape x) x.entries

abbrev pub pairs_of : Numbers → ℕ → ℕ → List ℕ → List ℕ
pairs_of x = pairs_digits (text_shape x) x.entries

-- ---- how long the parts are, and pairs behind pairs

pub pair_append : (i j count : ℕ) (f : ℕ → ℕ) (p rest : List ℕ) → pair_run i j count f (p ++ rest) ≡ pair_run i j count f p ++ rest
pair_append i j count f p rest =
    rw (run_append cost_width count f p rest, digits_append count_width j (run_digits cost_width count f p) rest)
    (digits_append count_width i (field_digits count_width j (run_digits cost_width count f p)) rest)

pub pair_run_length : (i j count : ℕ) (f : ℕ → ℕ) (rest : List ℕ) → length (pair_run i j count f rest) ≡ 2 * (pair_width + cost_width * count) + length rest
pair_run_length i j count f rest =
    let costs = run_digits cost_width count f rest in
    omega (arith, digits-length count_width i (field_digits count_width j costs), digits-length count_width j costs, run_length cost_width count f rest)

pub head_length : (s : ℕ) (sizes : List ℕ) → length (head_digits s sizes []) ≡ 2 * (size_field.at + count_width * length sizes)
head_length s sizes =
    let n = length sizes in
    let run = run_digits count_width n (nth sizes) [] in
    let scale = field_digits scale_width s run in
    omega (
      arith,
      digits-length kind_width (kind_number Load) (field_digits count_width n scale),
      digits-length count_width n scale,
      digits-length scale_width s run,
      run_length count_width n (nth sizes) [],
    )

module _ (s : Shape) (entries : List ℕ) where
  abbrev pair : ℕ → List ℕ → List ℕ
  pair = pair_digits s entries

  abbrev pairs : ℕ → ℕ → List ℕ → List ℕ
  pairs = pairs_digits s entries

  pairs_from_lem : (left k : ℕ) (rest : List ℕ) → pairs k (suc left) rest ≡ pairs k left (pair (k + left) rest)
  unfolding pairs_digits
  pairs_from_lem zero k rest = rw add-zero
  pairs_from_lem (suc left) k rest =
      let e : k + 1 + left ≡ k + suc left = omega arith in
      ap (pair k) (rw e at (pairs_from_lem left (k + 1) rest))

  pairs-append : (left k : ℕ) (p rest : List ℕ) → pairs k left (p ++ rest) ≡ pairs k left p ++ rest
  unfolding pairs_digits pair_digits
  pairs-append zero k p rest = refl
  pairs-append (suc left) k p rest = rw (pairs-append left (k + 1) p rest) (pair_append _ _ _ _ (pairs (k + 1) left p) rest)

  pub pairs_none : (rest : List ℕ) → pairs 0 0 rest ≡ rest
  unfolding pairs_digits
  pairs_none rest = refl

  -- one more pair: a turn of a loop that writes them
  pairs_more : (k : ℕ) → pairs 0 k [] ++ pair k [] ≡ pairs 0 (k + 1) []
  pairs_more k =
      sym (pairs-append k 0 [] (pair k [])) ∙ ap (λ (j : ℕ). pairs 0 k (pair j [])) (sym (zero-add k)) ∙ rw add-one (sym (pairs_from_lem k 0 []))

  pub pairs_turn : (p : List ℕ) (k : ℕ) → p ++ pairs 0 k [] ++ pair k [] ≡ p ++ pairs 0 (k + 1) []
  pairs_turn p k = append_assoc p (pairs 0 k []) (pair k []) ∙ ap (λ (l : List ℕ). p ++ l) (pairs_more k)

  -- pair k with its trains, where its costs begin and how many there are known by equations
  pub pair_at_lem : (k from count : ℕ) {i j : ℕ} → i ≡ s.first k → j ≡ s.second k → from ≡ entries_before s k → count ≡ pair_entries s k
      → pair_run i j count (λ o. nth entries (from + o)) [] ≡ pair k []
  unfolding pair_digits
  pair_at_lem k from count e f g h = rw (e, f, g, h)
