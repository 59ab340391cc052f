-- The numbers that pass a test, in their order: each is one of them, they ascend, and a sum over the list is a sum over all numbers that counts those that pass. By one number more at a time.
use mathlib.Core.Path.{◌≡◌, refl, ap, ap₂}
use mathlib.Core.Bool.{Bool, true, false, cond}
use mathlib.Core.List.{[], ◌∷◌, ◌++◌, append-nil}
use mathlib.Core.Logic.{dite}
use Prim.Native.Nat.{ℕ, zero, suc, ◌+◌, ◌<◌, ◌≤◌}
use native.Mathlib.Decide.{dec_lt}
use native.Mathlib.Numerals.{add-one}
use native.Mathlib.Omega.{arith}
use lib.ListN.{length}
use Rattle.theory.specs.Sum.{sum}
use Rattle.theory.specs.Lists.{nth}
use Rattle.clauses.specs.Clauses.{codes_below}
use Rattle.clauses.proofs.Lists.{snoc_length, snoc_at, snoc_end, snoc_sum}

-- o is below n and passes the test
pub record Passes (p : ℕ → Bool) (n o : ℕ) : Type 0 where
  pub below : o < n
  pub passes : p o ≡ true

module _ (p : ℕ → Bool) (n : ℕ) where
  -- no numbers
  codes_empty : length (codes_below p 0) ≡ 0
  unfolding codes_below
  codes_empty = refl

  -- one number more, by whether it passes
  codes_none : p n ≡ false → codes_below p (suc n) ≡ codes_below p n
  unfolding codes_below
  codes_none e = rw e (append-nil (codes_below p n))

  codes-one : p n ≡ true → codes_below p (suc n) ≡ codes_below p n ++ (n ∷ [])
  unfolding codes_below
  codes-one e = rw e

  wider : {o : ℕ} → Passes p n o → Passes p (suc n) o
  wider q = record { below = omega (arith, q.below); passes = q.passes }

  -- each law below is kept by one number more
  pass_more : (t : Bool) → p n ≡ t → ((k : ℕ) → k < length (codes_below p n) → Passes p n (nth (codes_below p n) k))
      → (k : ℕ) → k < length (codes_below p (suc n)) → Passes p (suc n) (nth (codes_below p (suc n)) k)
  pass_more false e before k h = rw (codes_none e) (wider (before k (rw (codes_none e) at h)))
  pass_more true e before k h =
      let l = codes_below p n in
      let q : k < length l + 1 = omega (arith, rw (codes-one e) at h, snoc_length l n) in
      rw (codes-one e)
      (dite (dec_lt k (length l)) (λ (r : k < length l). rw (snoc_at l n k r) (wider (before k r)))
      (λ m. rw (snoc_end l n k (omega arith)) (record { below = omega arith; passes = e })))

  few_more : (t : Bool) → p n ≡ t → length (codes_below p n) ≤ n → length (codes_below p (suc n)) ≤ suc n
  few_more false e before = rw (codes_none e) (omega arith)
  few_more true e before = rw (codes-one e) (omega (arith, snoc_length (codes_below p n) n))

  ascend_more : (t : Bool) → p n ≡ t → ((k : ℕ) → k < length (codes_below p n) → Passes p n (nth (codes_below p n) k))
      → ((k : ℕ) → k + 1 < length (codes_below p n) → nth (codes_below p n) k < nth (codes_below p n) (k + 1))
      → (k : ℕ) → k + 1 < length (codes_below p (suc n)) → nth (codes_below p (suc n)) k < nth (codes_below p (suc n)) (k + 1)
  ascend_more false e passes before k h = rw (codes_none e) (before k (rw (codes_none e) at h))
  ascend_more true e passes before k h =
      let l = codes_below p n in
      let q : k < length l = omega (arith, rw (codes-one e) at h, snoc_length l n) in
      rw (codes-one e, snoc_at l n k q)
      (dite (dec_lt (k + 1) (length l)) (λ (r : k + 1 < length l). rw (snoc_at l n (k + 1) r) (before k r))
      (λ m. rw (snoc_end l n (k + 1) (omega arith)) (passes k q).below))

  sum_more : (f : ℕ → ℕ) (t : Bool) → p n ≡ t → sum (length (codes_below p n)) (λ k. f (nth (codes_below p n) k)) ≡ sum n (λ o. cond (p o) (f o) 0)
      → sum (length (codes_below p (suc n))) (λ k. f (nth (codes_below p (suc n)) k)) ≡ sum (suc n) (λ o. cond (p o) (f o) 0)
  unfolding sum
  sum_more f false e before = rw (codes_none e, e) (omega arith)
  sum_more f true e before = rw (codes-one e, e) (omega (arith, snoc_sum (codes_below p n) n f))

module _ (p : ℕ → Bool) where
  -- a loop's first and next turn
  pub codes_begun : codes_below p 0 ≡ []
  unfolding codes_below
  codes_begun = refl

  pub codes_skip : (n : ℕ) → p n ≡ false → codes_below p (n + 1) ≡ codes_below p n
  codes_skip n e = rw add-one (codes_none p n e)

  pub codes_next : (n : ℕ) → p n ≡ true → codes_below p (n + 1) ≡ codes_below p n ++ (n ∷ [])
  codes_next n e = rw add-one (codes-one p n e)

  -- there are no more than there are numbers
  pub codes_few : (n : ℕ) → length (codes_below p n) ≤ n
  codes_few zero = omega (arith, codes_empty p 0)
  codes_few (suc n) = few_more p n (p n) refl (codes_few n)

  -- each entry is a number that passes
  pub codes_pass : (n k : ℕ) → k < length (codes_below p n) → Passes p n (nth (codes_below p n) k)
  codes_pass zero k h = absurd (omega (arith, codes_empty p 0))
  codes_pass (suc n) k h = pass_more p n (p n) refl (codes_pass n) k h

  -- the entries ascend
  pub codes_ascend : (n k : ℕ) → k + 1 < length (codes_below p n) → nth (codes_below p n) k < nth (codes_below p n) (k + 1)
  codes_ascend zero k h = absurd (omega (arith, codes_empty p 0))
  codes_ascend (suc n) k h = ascend_more p n (p n) refl (codes_pass n) (codes_ascend n) k h

  -- a sum over the entries is a sum over the numbers that pass
  pub codes-sum : (f : ℕ → ℕ) (n : ℕ) → sum (length (codes_below p n)) (λ k. f (nth (codes_below p n) k)) ≡ sum n (λ o. cond (p o) (f o) 0)
  unfolding sum codes_below
  codes-sum f zero = refl
  codes-sum f (suc n) = sum_more p n f (p n) refl (codes-sum f n)

-- tests that agree list the same numbers
pub codes_cong : (p q : ℕ → Bool) (n : ℕ) → ((o : ℕ) → o < n → p o ≡ q o) → codes_below p n ≡ codes_below q n
unfolding codes_below
codes_cong p q zero e = refl
codes_cong p q (suc n) e = ap₂ ◌++◌ (codes_cong p q n (λ o h. e o (omega arith))) (ap (λ (t : Bool). cond t (n ∷ []) []) (e n (omega arith)))
