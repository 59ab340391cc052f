-- What the iterators of `std` answer, as tests over a range of numbers.
use mathlib.Core.Path.{◌≡◌, ap, ◌∙◌}
use mathlib.Core.Bool.{Bool, true, false}
use mathlib.Core.List.{List}
use Prim.Native.Nat.{ℕ, ◌+◌, ◌-◌, ◌≤◌}
use native.Mathlib.Nat.{zero-add}
use native.Mathlib.Omega.{arith}
use lib.ListN.{length, get_or, take, drop}
use lib.Seq.{length-take-le, get_or-take}
use denote.Param.Members.{Mut}
use denote.Ref.{Bor}
use Rattle.std.specs.Fn.{Called}
use Rattle.std.specs.Iterator.{YieldsThen}
use Rattle.std.specs.List.{FoldsTo, range_with_len}
use Rattle.std.specs.Option.{MatchOption}
use Rattle.std.specs.Slice.Iter.{iter_rest}
use Rattle.std.specs.declared.option.Option.{Option}
use Rattle.std.specs.declared.ops.Range.{Range}
use Rattle.std.proofs.Common.{Iter}
use Rattle.std.proofs.iter.Yields.{fronts, nat_range_steps}
use Rattle.std.proofs.lemmas.Iterator.{YieldsList-from_slice, YieldsList-from_range}
use Rattle.std.proofs.lemmas.Iterator.Search.{all_from_yields_List}
use Rattle.std.proofs.lemmas.List.FromFn.{length-range_with_len, get_or-range_with_len}
use Rattle.theory.specs.Range.{all}
use Rattle.theory.proofs.Range.{all_cong, list_all-all}
use Rattle.theory.proofs.Lists.{part_length, part_at}

-- what the clause `ran` of `all` says
abbrev pub RanAll : {S A F : Type 0} → (S → Option A → S → Type 0) → Mut F (A × Unit {0}) Bool → S → S → F → Bool → Type 0
RanAll {S} {A} {F} steps g s u f r =
    (xs : List A) × (o : Option A) × (j : F) × YieldsThen steps s xs o u × FoldsTo (λ p x q. Called g p (x, tt) true q) f xs j
    × MatchOption o (r ≡ true) (λ x. (r ≡ false) × ((h : F) × Called g j (x, tt) false h))

-- `all` over n places of a slice
pub part_all : {A F : Type 0} {g : Mut F (Bor A × Unit {0}) Bool} {s : Iter A} (test : A → Bool) (l : List A) (start n : ℕ) (d : A) (u : Iter A) (f : F) (r : Bool)
    → RanAll fronts g s u f r → start + n ≤ length l → iter_rest s ≡ take (start + n - start) (drop start l)
    → ((x : Bor A) (b : Bool) (q : F) → Called g f (x, tt) b q → (q ≡ f) × (b ≡ test x.now)) → r ≡ all n (λ k. test (get_or l (start + k) d))
part_all test l start n d u f r ran h e calls =
    let p = take (start + n - start) (drop start l) in
    all_from_yields_List test u f r ran (YieldsList-from_slice p e) calls ∙ list_all-all test d p
    ∙ rw (part_length l start n h) (all_cong n _ _ (λ k q. ap test (part_at l start n k d q)))

-- `all` over the first n places of a slice
pub front_all : {A F : Type 0} {g : Mut F (Bor A × Unit {0}) Bool} {s : Iter A} (test : A → Bool) (l : List A) (n : ℕ) (d : A) (u : Iter A) (f : F) (r : Bool)
    → RanAll fronts g s u f r → n ≤ length l → iter_rest s ≡ take n l
    → ((x : Bor A) (b : Bool) (q : F) → Called g f (x, tt) b q → (q ≡ f) × (b ≡ test x.now)) → r ≡ all n (λ k. test (get_or l k d))
front_all test l n d u f r ran h e calls =
    all_from_yields_List test u f r ran (YieldsList-from_slice (take n l) e) calls ∙ list_all-all test d (take n l)
    ∙ rw (length-take-le n l h) (all_cong n _ _ (λ k q. ap test (get_or-take n l k d q)))

-- `all` over the numbers below n
pub range_all : {F : Type 0} {g : Mut F (ℕ × Unit {0}) Bool} {s : Range ℕ} (test : ℕ → Bool) (n : ℕ) (u : Range ℕ) (f : F) (r : Bool)
    → RanAll nat_range_steps g s u f r → s ≡ record { start = 0; end = n }
    → ((x : ℕ) (b : Bool) (q : F) → Called g f (x, tt) b q → (q ≡ f) × (b ≡ test x)) → r ≡ all n test
range_all test n u f r ran e calls =
    all_from_yields_List test u f r ran (YieldsList-from_range 0 n n e (omega arith)) calls ∙ list_all-all test 0 (range_with_len 0 n)
    ∙ rw (length-range_with_len 0 n) (all_cong n _ _ (λ k q. ap test (get_or-range_with_len 0 n k 0 q ∙ zero-add k)))
