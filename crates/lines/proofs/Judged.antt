-- What is known of fields that were judged fine.
use mathlib.Core.Path.{◌≡◌, refl, sym, subst}
use mathlib.Core.Bool.{true}
use mathlib.Core.List.{List}
use Prim.Native.Nat.{ℕ, zero, suc, ◌+◌, ◌*◌, ◌<◌, ◌≤◌}
use native.Mathlib.Nat.{mul-zero, mul-suc}
use native.Mathlib.Omega.{arith}
use lib.Dec.{leb, eqb}
use lib.IntN.{nat_abs}
use borrow.Author.Tests.{leb-true, eqb-true}
use Rattle.theory.proofs.Range.{both_true}
use Rattle.refusals.specs.declared.Refusal.TheVariants.{Fields}
use Rattle.refusals.specs.Verdicts.{Fine, then, unless}
use Rattle.refusals.proofs.Verdicts.{then_fine, unless_fine, first_fine}
use Rattle.frames.specs.Digits.{bytes}
use Rattle.lines.specs.declared.field.Rule.{Rule}
use Rattle.lines.specs.declared.field.Rule.TheVariants.{Any, Between, Around, Priced}
use Rattle.lines.specs.declared.field.Field.{Field}
use Rattle.lines.specs.Layout.{number_in, signed_in, end_of, further}
use Rattle.lines.specs.Verdicts.{obeys, takes_any, field_verdict, run_verdict, end_verdict, last_verdict, runs_verdict}

-- a rule that takes any number is obeyed
pub any_obeyed : (rule : Rule) (width v : ℕ) → takes_any rule ≡ true → obeys rule width v ≡ true
any_obeyed Any width v e = refl
any_obeyed (Between low high) width v e = cc
any_obeyed (Around limit) width v e = cc
any_obeyed Priced width v e = cc

-- a field is wholly there, and its number is within its rule
pub record Read (l : List ℕ) (f : Field) : Type 0 where
  pub there : end_of f ≤ bytes l
  pub right : obeys f.rule f.width (number_in l f) ≡ true

pub field_fine : (l : List ℕ) (f : Field) → field_verdict l f ≡ Fine → Read l f
unfolding field_verdict
field_fine l f e =
    let g = then_fine (unless (leb (end_of f) (bytes l)) Fields) (unless (obeys f.rule f.width (number_in l f)) f.refusal) e in
    record { there = leb-true _ _ (unless_fine _ Fields g.0); right = unless_fine _ f.refusal g.1 }

pub between : (low high width v : ℕ) → obeys (Between low high) width v ≡ true → (low ≤ v) × (v ≤ high)
between low high width v e =
    let f = both_true (leb low v) (leb v high) e in
    (leb-true low v f.0, leb-true v high f.1)

-- both at once
pub field-within : (l : List ℕ) (f : Field) {low high : ℕ} → f.rule ≡ Between low high → field_verdict l f ≡ Fine
    → (end_of f ≤ bytes l) × ((low ≤ number_in l f) × (number_in l f ≤ high))
field-within l f {low} {high} p e =
    let g = field_fine l f e in
    (g.there, between low high f.width (number_in l f) (subst (λ (r : Rule). obeys r f.width (number_in l f) ≡ true) p g.right))

module _ (l : List ℕ) (f : Field) (n : ℕ) (e : run_verdict l f n ≡ Fine) where
  pub run_fine : (k : ℕ) → k < n → Read l (further f k)
  run_fine k h = field_fine l (further f k) (first_fine (λ j. field_verdict l (further f j)) n e k h)

  pub run_within_lem : {low high : ℕ} → f.rule ≡ Between low high → (k : ℕ) → k < n → (low ≤ number_in l (further f k)) × (number_in l (further f k) ≤ high)
  run_within_lem p k h = (field-within l (further f k) p (first_fine (λ j. field_verdict l (further f j)) n e k h)).1

  -- of numbers in two's complement: none is further from 0 than the rule says
  pub run_around : {limit : ℕ} → f.rule ≡ Around limit → (k : ℕ) → k < n → nat_abs (signed_in l (further f k)) ≤ limit
  run_around p k h = leb-true _ _ (subst (λ (r : Rule). obeys r f.width (number_in l (further f k)) ≡ true) p (run_fine k h).right)

-- the run is wholly there
pub run_there : (l : List ℕ) (f : Field) (n : ℕ) → f.at ≤ bytes l → run_verdict l f n ≡ Fine → f.at + f.width * n ≤ bytes l
run_there l f zero h e = omega (arith, mul-zero f.width)
run_there l f (suc n) h e = omega (arith, (run_fine l f (suc n) e n (omega arith)).there, mul-suc f.width n)

pub end_fine : (count at : ℕ) → end_verdict count at ≡ Fine → at ≡ count
end_fine count at e = eqb-true at count (unless_fine (eqb at count) Fields e)

-- a last field that was judged fine, and nothing behind it
pub last_fine : (l : List ℕ) (f : Field) → last_verdict l f ≡ Fine → (field_verdict l f ≡ Fine) × (bytes l ≡ end_of f)
unfolding last_verdict
last_fine l f e =
    let p = then_fine (field_verdict l f) (end_verdict (bytes l) (end_of f)) e in
    (p.0, sym (end_fine (bytes l) (end_of f) p.1))

-- two runs that were judged fine, and nothing behind them
pub runs_fine : (l : List ℕ) (f : Field) (n : ℕ) (g : Field) (m : ℕ) → runs_verdict l f n g m ≡ Fine
    → (run_verdict l f n ≡ Fine) × (run_verdict l g m ≡ Fine) × (bytes l ≡ g.at + g.width * m)
unfolding runs_verdict
runs_fine l f n g m e =
    let end = end_verdict (bytes l) (further g m).at in
    let p = then_fine (run_verdict l f n) (then (run_verdict l g m) end) e in
    let q = then_fine (run_verdict l g m) end p.1 in
    (p.0, q.0, sym (end_fine (bytes l) (further g m).at q.1))
