-- Weights of a certificate: their sums agree, and none stands on what is forbidden.
use Rattle.std.specs.Prelude.{◌≡◌, false, cond, ℕ, ◌*◌, ◌<◌, eqb}
use Rattle.certificates.specs.Certify.{Weights}
use Rattle.tables.specs.Plans.{Shape}

-- no 'weight above 0 on a forbidden entry'
pub record Spares (s : Shape) (w : Weights) : Type 0 where
  pub choices : (i a : ℕ) → i < s.trains → a < s.size i → s.choice_open i a ≡ false → w.choice i a ≡ 0
  pub entries : (k a c : ℕ) → k < s.pairs → a < s.size (s.first k) → c < s.size (s.second k) → s.entry_open k a c ≡ false → w.pair k a c ≡ 0

-- 1 where a is the choice b, else 0
abbrev pub takes : ℕ → ℕ → ℕ
takes b a = cond (eqb b a) 1 0

-- the weights of a plan: 1 on each choice and each entry that it takes, with W = 1
abbrev pub plan_weights : Shape → (ℕ → ℕ) → Weights
plan_weights s x = record { full_weight = 1; choice = λ i a. takes (x i) a; pair = λ k a c. takes (x (s.first k)) a * takes (x (s.second k)) c }
