-- Document 01, 'Lists and the ledger': rivals, which are all that a rewriting of the tables could ever be. Rivals by lifts and moves stand in the crate `weights`.
use Rattle.std.specs.Prelude.{◌≡◌, ℕ, zero, suc, ◌+◌, ◌*◌, ◌<◌, ◌≤◌}
use Rattle.std.proofs.Common.{mul-pos, arith}
use Rattle.tables.specs.Plans.{Shape, Costs, IsPlan}

-- ---- fractions

-- 'A rival's fraction is one whole number over another that is above 0'; here none is below 0
pub record Fraction : Type 0 where
  pub num : ℕ
  pub den : ℕ
  pub above : 0 < den

-- a whole number as a fraction
unfoldable pub as_fraction : ℕ → Fraction
as_fraction n = record { num = n; den = 1; above = omega arith }

unfoldable pub plus : Fraction → Fraction → Fraction
plus f g = record { num = f.num * g.den + g.num * f.den; den = f.den * g.den; above = mul-pos f.above g.above }

unfoldable pub times : ℕ → Fraction → Fraction
times n f = record { num = n * f.num; den = f.den; above = f.above }

unfoldable pub sum_of : ℕ → (ℕ → Fraction) → Fraction
sum_of zero f = as_fraction 0
sum_of (suc n) f = plus (sum_of n f) (f n)

-- the same number, however it is written
unfoldable pub Same : Fraction → Fraction → Type 0
Same f g = f.num * g.den ≡ g.num * f.den

unfoldable pub AtMost : Fraction → Fraction → Type 0
AtMost f g = f.num * g.den ≤ g.num * f.den

-- ---- rivals

-- 'fractions as costs, none below 0, and a fraction as constant': the constant is gain less loss, so that it may be below 0
pub record Rival : Type 0 where
  pub gain : Fraction
  pub loss : Fraction
  pub choice : ℕ → ℕ → Fraction
  pub pair : ℕ → ℕ → ℕ → Fraction

-- a plan's total by a rival, before its loss is taken off
unfoldable pub rival_total : Shape → Rival → (ℕ → ℕ) → Fraction
rival_total s r x = plus (plus r.gain (sum_of s.trains (λ i. r.choice i (x i)))) (sum_of s.pairs (λ k. r.pair k (x (s.first k)) (x (s.second k))))

-- a rival 'gives every plan the total' that f says
unfoldable pub IsRival : Shape → ((ℕ → ℕ) → ℕ) → Rival → Type 0
IsRival s f r = (x : ℕ → ℕ) → IsPlan s x → Same (rival_total s r x) (plus (as_fraction (f x)) r.loss)

-- 'W × the constant of every rival is at most E'
unfoldable pub ConstantAtMost : ℕ → ℕ → Rival → Type 0
ConstantAtMost w e r = AtMost (times w r.gain) (plus (as_fraction e) (times w r.loss))

-- every cost times d: 's × the ledger's costs'
abbrev pub scaled : ℕ → Costs → Costs
scaled d t = record { constant = d * t.constant; choice = λ i a. d * t.choice i a; pair = λ k a c. d * t.pair k a c }
