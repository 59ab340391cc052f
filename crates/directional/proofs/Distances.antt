-- How far from 0 a number is, after something was added to it or taken off.
use mathlib.Core.Path.{◌≡◌, ap, ◌∙◌}
use mathlib.Core.Bool.{Bool, true, false, cond}
use mathlib.Core.Logic.{dite}
use Prim.Native.Nat.{ℕ, zero, suc, ◌+◌, ◌-◌, ◌<◌, ◌≤◌}
use native.Mathlib.Decide.{dec_lt}
use native.Mathlib.Omega.{arith}
use lib.Dec.{ltb}
use lib.IntN.{ℤ, pos, negsuc, neg_ℤ, ◌+ℤ◌, +ℤ_assoc}
use lib.Signed.{mag}
use borrow.Author.Tests.{lt-ltb}
use Rattle.rewriting.proofs.Falls.{less}

-- of a number below 0 as far away
pub negated_near : (l : ℕ) → mag (neg_ℤ (pos l)) ≤ l
negated_near zero = omega arith
negated_near (suc l) = omega arith

pub raised_near : (z : ℤ) (l : ℕ) → mag (z +ℤ pos l) ≤ mag z + l
raised_near (pos n) l = omega arith
raised_near (negsuc n) l = go (ltb l (suc n))
  where
    go : (t : Bool) → mag (cond t (negsuc (suc n - suc l)) (pos (l - suc n))) ≤ n + l
    go true = omega arith
    go false = omega arith

pub lowered_near : (z : ℤ) (l : ℕ) → mag (z +ℤ neg_ℤ (pos l)) ≤ mag z + l
lowered_near z zero = raised_near z 0
lowered_near (pos n) (suc l) = go (ltb n (suc l))
  where
    go : (t : Bool) → mag (cond t (negsuc (suc l - suc n)) (pos (n - suc l))) ≤ n + suc l
    go true = omega arith
    go false = omega arith
lowered_near (negsuc n) (suc l) = omega arith

-- what is taken off, beyond what was added
beyond : (t l : ℕ) → t < l → pos t +ℤ neg_ℤ (pos l) ≡ neg_ℤ (pos (l - t))
beyond t zero h = absurd (omega arith)
beyond t (suc l) h = let e : suc l - t ≡ suc (suc l - suc t) = omega arith in rw (lt-ltb t (suc l) h, e)

-- added to and then taken off: no further than the greater of the two
pub turned_near : (z : ℤ) (t l d : ℕ) → t ≤ d → l ≤ d → mag ((z +ℤ pos t) +ℤ neg_ℤ (pos l)) ≤ mag z + d
turned_near z t l d p q =
    dite (dec_lt t l)
    (λ (h : t < l). omega (arith, ap mag (+ℤ_assoc z (pos t) (neg_ℤ (pos l)) ∙ ap (λ (y : ℤ). z +ℤ y) (beyond t l h)), lowered_near z (l - t)))
    (λ n. let h : l ≤ t = omega arith in omega (arith, ap mag (+ℤ_assoc z (pos t) (neg_ℤ (pos l)) ∙ ap (λ (y : ℤ). z +ℤ y) (less t l h)), raised_near z (t - l)))
