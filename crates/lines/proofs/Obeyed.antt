-- From facts to 'fine': the way back of the laws of verdicts, over any field. A field or a run that stands in a line and obeys its rule is judged fine.
use mathlib.Core.Path.{◌≡◌}
use mathlib.Core.Bool.{true}
use mathlib.Core.List.{List}
use Prim.Native.Nat.{ℕ, ◌<◌, ◌≤◌, ◌^◌}
use native.Mathlib.Omega.{arith}
use borrow.Author.Tests.{le-leb, eq-eqb}
use Rattle.refusals.specs.Verdicts.{Fine}
use Rattle.refusals.proofs.Verdicts.{first-all}
use Rattle.tables.specs.Numbers.{is_cost}
use Rattle.tables.proofs.Prices.{cost_high}
use Rattle.frames.specs.Digits.{bytes}
use Rattle.frames.specs.Fields.{field_digits}
use Rattle.frames.specs.Runs.{run_digits}
use Rattle.frames.proofs.Stands.{Stands, stands_field, field_inside, stands_run, run_inside}
use Rattle.lines.specs.declared.field.Rule.TheVariants.{Between}
use Rattle.lines.specs.declared.field.Field.{Field}
use Rattle.lines.specs.Layout.{end_of, further, cost_width}
use Rattle.lines.specs.Verdicts.{obeys, field_verdict, run_verdict, end_verdict}
use Rattle.lines.proofs.Judged.{Read}

pub obeys_between : {low high : ℕ} (width v : ℕ) → (low ≤ v) × (v ≤ high) → obeys (Between low high) width v ≡ true
obeys_between {low} {high} width v h = rw (le-leb low v h.0, le-leb v high h.1)

-- a cost, or that of a forbidden entry, fits its field
pub cost_fits : (v : ℕ) → is_cost v ≡ true → v < 256 ^ cost_width
cost_fits v h = omega (arith, cost_high v h)

pub field-judged : (l : List ℕ) (f : Field) → Read l f → field_verdict l f ≡ Fine
unfolding field_verdict
field-judged l f h = rw (le-leb (end_of f) (bytes l) h.there, h.right)

pub run_judged : (l : List ℕ) (f : Field) (n : ℕ) → ((k : ℕ) → k < n → Read l (further f k)) → run_verdict l f n ≡ Fine
run_judged l f n h = first-all _ n (λ k q. field-judged l (further f k) (h k q))

pub end_judged : (count at : ℕ) → at ≡ count → end_verdict count at ≡ Fine
end_judged count at e = rw (eq-eqb at count e)

-- ---- what stands in a line and obeys its rule

module _ {l : List ℕ} (f : Field) where
  pub stands_fine : (v : ℕ) (rest : List ℕ) → Stands l f.at (field_digits f.width v rest) → v < 256 ^ f.width → obeys f.rule f.width v ≡ true
      → field_verdict l f ≡ Fine
  stands_fine v rest s h e =
      field-judged l f (record { there = field_inside f.width v rest s; right = rw (stands_field f.width v rest s h) e })

  pub run_stands_fine : (n : ℕ) (g : ℕ → ℕ) (rest : List ℕ) → Stands l f.at (run_digits f.width n g rest)
      → ((k : ℕ) → k < n → g k < 256 ^ f.width) → ((k : ℕ) → k < n → obeys f.rule f.width (g k) ≡ true) → run_verdict l f n ≡ Fine
  run_stands_fine n g rest s h e =
      run_judged l f n (λ k q. record { there = run_inside f.width n g rest s k q; right = rw (stands_run f.width n g rest s k q (h k q)) (e k q) })
