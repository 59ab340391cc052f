-- What `sum` answers over the numbers below n: the sum of their terms, where that fits.
use mathlib.Core.Path.{◌≡◌, refl, ap, ◌∙◌}
use mathlib.Core.List.{List, map}
use Prim.Native.Nat.{ℕ, zero, suc, ◌+◌, ◌<◌}
use native.Mathlib.Nat.{zero-add}
use native.Mathlib.Numerals.{add-one}
use native.Mathlib.Omega.{arith}
use denote.Param.Members.{Mut}
use Rattle.std.specs.Bool.{⊤}
use Rattle.std.specs.Fn.{Called}
use Rattle.std.specs.Iterator.{Drains}
use Rattle.std.specs.Iterator.Adapters.{map_source, map_callee}
use Rattle.std.specs.Iterator.Runs.{EachRunFrom}
use Rattle.std.specs.List.{fold, range_with_len}
use Rattle.std.specs.List as seq
use Rattle.std.specs.declared.iter.Map.{Map}
use Rattle.std.specs.declared.ops.Range.{Range}
use Rattle.std.proofs.iter.Yields.{nat_range_steps}
use Rattle.std.proofs.lemmas.Iterator.{YieldsList, YieldsList-from_range, YieldsList-from_map, maps}
use Rattle.std.proofs.lemmas.Iterator.Consumers.{sum_from_yields_List, fits_from_yields_list}
use Rattle.std.proofs.lemmas.List.FromFn.{sum_by-map-range_with_len_more}
use Rattle.theory.specs.Sum.{sum}

-- the list of the terms has their sum
range_sum : (f : ℕ → ℕ) (n : ℕ) → seq.sum (map f (range_with_len 0 n)) ≡ sum n f
unfolding sum
range_sum f zero = refl
range_sum f (suc n) = rw add-one at (sum_by-map-range_with_len_more (λ x. x) f 0 n n (zero-add n)) ∙ ap (λ (v : ℕ). v + f n) (range_sum f n)

-- a closure that answers with the terms
module _ {F : Type 0} {g : Mut F (ℕ × Unit {0}) ℕ} (f : ℕ → ℕ) (n : ℕ) (s : Map (Range ℕ) F) {h : F} (source : map_source s ≡ record { start = 0; end = n }) (closure : map_callee s ≡ h)
    (calls : (x r : ℕ) (q : F) → Called g h (x, tt) r q → (q ≡ h) × (r ≡ f x)) where
  terms : YieldsList (maps nat_range_steps g) (λ r. r) s (map f (range_with_len 0 n))
  terms = YieldsList-from_map g f (YieldsList-from_range 0 n n source (omega arith)) closure calls

  pub sum_fits : (top : ℕ) → sum n f < top → EachRunFrom (maps nat_range_steps g) s (λ p. fold (λ a x. a + x) 0 p.items < top)
  sum_fits top l = fits_from_yields_list s top terms (rw (range_sum f n) l)

  pub sum_is : (r : ℕ) → ((xs : List ℕ) × (⊤ → Drains (maps nat_range_steps g) s xs) × (r ≡ fold (λ a x. a + x) 0 xs)) → r ≡ sum n f
  sum_is r ran = sum_from_yields_List s r ran terms ∙ range_sum f n
