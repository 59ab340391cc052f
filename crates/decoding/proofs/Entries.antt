-- Laws of the costs of a load's pairs, one pair after the other.
use mathlib.Core.Path.{◌≡◌, refl, sym, ap, subst, ◌∙◌}
use mathlib.Core.List.{List, [], ◌++◌}
use Prim.Native.Nat.{ℕ, zero, suc, ◌+◌, ◌-◌, ◌<◌, ◌≤◌}
use native.Mathlib.Nat.{add-zero}
use native.Mathlib.Numerals.{add-one}
use native.Mathlib.Omega.{arith}
use lib.ListN.{length, take, length-append}
use lib.Seq.{paste, take-paste, take_all}
use Rattle.theory.proofs.Lists.{list_length}
use Rattle.frames.specs.Digits.{bytes}
use Rattle.lines.specs.Layout.{entry_count, pair_at, load_pairs, further, numbers_in, entry_field}
use Rattle.kinds.proofs.LoadFields.{FinePair, pair_next}
use Rattle.decoding.specs.Numbers.{entries_of}

pub entries_more : (l : List ℕ) (k : ℕ) → entries_of l (k + 1) ≡ entries_of l k ++ numbers_in l (entry_field (pair_at l k)) (entry_count l (pair_at l k))
unfolding entries_of
entries_more l k = rw add-one

pub entries_length : (l : List ℕ) (k : ℕ) → length (entries_of l (k + 1)) ≡ length (entries_of l k) + entry_count l (pair_at l k)
entries_length l k = rw (entries_more l k, length-append) (ap (λ (n : ℕ). length (entries_of l k) + n) (list_length _ (entry_count l (pair_at l k))))

-- one pair's costs, written after those of the pairs before it
pub entries_turn_lem : (l e : List ℕ) (k from : ℕ) {at r : ℕ} {e' : List ℕ} → at ≡ pair_at l k → r ≡ entry_count l at
    → e' ≡ paste e from (numbers_in l (entry_field at) (entry_count l at)) (entry_count l at) → from + entry_count l at ≤ length e → take from e ≡ entries_of l k
    → take (from + r) e' ≡ entries_of l (k + 1)
entries_turn_lem l e k from {at} p q s h t =
    let n = entry_count l at in
    let run = numbers_in l (entry_field at) n in
    let g : length run ≡ n = list_length _ n in
    rw (q, s) (take-paste e from run n (omega arith) (omega arith) ∙ rw (t, take_all n run (omega arith), p) (sym (entries_more l k)))

-- the costs of more pairs are more
pub entries_mono : (l : List ℕ) (k n : ℕ) → k ≤ n → length (entries_of l k) ≤ length (entries_of l n)
entries_mono l k n h = subst (λ (i : ℕ). length (entries_of l k) ≤ length (entries_of l i)) (omega arith) (from_here (n - k))
  where
    from_here : (d : ℕ) → length (entries_of l k) ≤ length (entries_of l (k + d))
    from_here zero = rw add-zero (omega arith)
    from_here (suc d) = let e : k + suc d ≡ (k + d) + 1 = omega arith in rw e (omega (arith, entries_length l (k + d), from_here d))

pub entries_none : (l : List ℕ) → entries_of l 0 ≡ []
unfolding entries_of
entries_none l = refl

-- a pair that was judged fine is inside the line, and its costs among those of all pairs
pub pair_inside : (l : List ℕ) (k at from : ℕ) → at ≡ pair_at l k → from ≡ length (entries_of l k) → k < load_pairs l → FinePair l k
    → ((further (entry_field at) (entry_count l at)).at ≤ bytes l) × (from + entry_count l at ≤ length (entries_of l (load_pairs l)))
pair_inside l k at from p q h f =
    rw (p, q) (omega (arith, pair_next l k, f.next), omega (arith, entries_length l k, entries_mono l (k + 1) (load_pairs l) (omega arith)))
