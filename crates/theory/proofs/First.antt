-- What the first number that passes a test is, and what `find` answers over a range.
use mathlib.Core.Path.{◌≡◌, refl, sym, ap}
use mathlib.Core.Bool.{Bool, true, false}
use mathlib.Core.List.{List}
use mathlib.Core.Logic.{⊎_elim}
use Prim.Native.Nat.{ℕ, zero, suc, ◌<◌, ◌≤◌}
use native.Mathlib.Omega.{arith}
use denote.Param.Members.{Mut}
use denote.Ref.{Bor}
use Rattle.std.specs.Prelude.{Option, Some, None, IfSome, ⊤}
use Rattle.std.specs.Fn.{CalledAt}
use Rattle.std.specs.Iterator.{YieldsThen}
use Rattle.std.specs.List.{FoldsTo}
use Rattle.std.specs.Option.{MatchOption}
use Rattle.std.specs.declared.ops.Range.{Range}
use Rattle.std.proofs.iter.Yields.{nat_range_steps}
use Rattle.std.proofs.lemmas.Iterator.{first_from_Range}
use Rattle.theory.proofs.Range.{below_suc}
use Rattle.theory.specs.First.{or_next, first_passing}

-- ---- what it is

-- it passes, and none before it does
pub record IsFirst (n : ℕ) (p : ℕ → Bool) (k : ℕ) : Type 0 where
  pub there : k < n
  pub passes : p k ≡ true
  pub earlier : (j : ℕ) → j < k → p j ≡ false

-- so it is where there is one, and else none passes
abbrev FirstOrNone : ℕ → (ℕ → Bool) → Option ℕ → Type 0
FirstOrNone n p (Some k) = IsFirst n p k
FirstOrNone n p None = (j : ℕ) → j < n → p j ≡ false

first_step : (n : ℕ) (p : ℕ → Bool) (so : Option ℕ) (t : Bool) → p n ≡ t → FirstOrNone n p so → FirstOrNone (suc n) p (or_next so t n)
first_step n p (Some k) t e x = record { there = omega (arith, x.there); passes = x.passes; earlier = x.earlier }
first_step n p None true e x = record { there = omega arith; passes = e; earlier = x }
first_step n p None false e x = λ j h. ⊎_elim (λ (q : j ≡ n). rw q e) (λ (l : j < n). x j l) (below_suc j n h)

first_or_none : (n : ℕ) (p : ℕ → Bool) → FirstOrNone n p (first_passing n p)
unfolding first_passing
first_or_none zero p = λ j h. absurd (omega arith)
first_or_none (suc n) p = first_step n p (first_passing n p) (p n) refl (first_or_none n p)

pub first_is : (n : ℕ) (p : ℕ → Bool) (k : ℕ) → first_passing n p ≡ Some k → IsFirst n p k
first_is n p k e = rw e at (first_or_none n p)

pub none_passes : (n : ℕ) (p : ℕ → Bool) → first_passing n p ≡ None → (j : ℕ) → j < n → p j ≡ false
none_passes n p e = rw e at (first_or_none n p)

pub first_below : (n : ℕ) (p : ℕ → Bool) → IfSome (first_passing n p) (λ k. k < n)
first_below n p = go (first_passing n p) (first_or_none n p)
  where
    go : (so : Option ℕ) → FirstOrNone n p so → IfSome so (λ k. k < n)
    go (Some k) x = x.there
    go None x = tt

-- ---- the one answer

pub first_none : (n : ℕ) (p : ℕ → Bool) → ((k : ℕ) → k < n → p k ≡ false) → first_passing n p ≡ None
unfolding first_passing
first_none zero p h = refl
first_none (suc n) p h = rw (first_none n p (λ k l. h k (omega arith)), h n (omega arith)) refl

pub first_here : (n : ℕ) (p : ℕ → Bool) (k : ℕ) → k < n → p k ≡ true → ((j : ℕ) → j < k → p j ≡ false) → first_passing n p ≡ Some k
unfolding first_passing
first_here zero p k h e b = absurd (omega arith)
first_here (suc n) p k h e b =
    ⊎_elim
    (λ (q : k ≡ n). rw (first_none n p (λ j l. b j (omega arith)), rw q at e) (ap Some (sym q)))
    (λ (l : k < n). rw (first_here n p k l e b) refl)
    (below_suc k n h)

-- what the clause `ran` of `find` says of a range
abbrev pub RanFind : {F : Type 0} → Mut F (Bor ℕ × Unit {0}) Bool → Range ℕ → Range ℕ → F → Option ℕ → Type 0
RanFind {F} g s u f r =
    (xs : List ℕ) × (j : F) × YieldsThen nat_range_steps s xs r u × FoldsTo (λ p x q. CalledAt g p x false q) f xs j
    × MatchOption r ⊤ (λ x. (h : F) × CalledAt g j x true h)

-- `find` over the numbers below n
pub range_find : {F : Type 0} {g : Mut F (Bor ℕ × Unit {0}) Bool} {s : Range ℕ} (test : ℕ → Bool) (n : ℕ) (u : Range ℕ) (f : F) (r : Option ℕ)
    → RanFind g s u f r → s ≡ record { start = 0; end = n }
    → ((x : ℕ) (b : Bool) (q : F) → CalledAt g f x b q → (q ≡ f) × (b ≡ test x)) → r ≡ first_passing n test
range_find {s = s} test n u f r ran e calls =
    go r
    (rw e at (first_from_Range s u f r (λ x. test x ≡ true) (λ x. test x ≡ false) ran (λ x q k. sym (calls x true q k).1) (λ x q k. ((calls x false q k).0, sym (calls x false q k).1))))
  where
    go : (o : Option ℕ) → MatchOption o ((k : ℕ) → 0 ≤ k → k < n → test k ≡ false) (λ i. (0 ≤ i) × (i < n) × (test i ≡ true) × ((k : ℕ) → 0 ≤ k → k < i → test k ≡ false)) → o ≡ first_passing n test
    go (Some i) x = sym (first_here n test i x.1 x.2 (λ j h. x.3 j (omega arith) h))
    go None x = sym (first_none n test (λ k h. x k (omega arith) h))
