-- Laws of finite sums. A claim about sums is stated with nothing subtracted, taken term by term, and handed to `omega`, to which each `sum ..` is one unknown.
use mathlib.Core.Path.{◌≡◌, refl, sym, ap, ◌∙◌}
use mathlib.Core.Bool.{cond, not}
use mathlib.Core.Logic.{⊎_elim, dite}
use Prim.Native.Nat.{ℕ, zero, suc, ◌+◌, ◌*◌, ◌<◌, ◌≤◌}
use native.Mathlib.Nat.{add-zero, add-suc, add-mul, mul-add, mul-le-mul_left, mul-zero, mul_comm, zero-mul, suc-mul, eq-or-lt_of_le, le_of_suc-le-suc, mul-suc}
use native.Mathlib.Decide.{ℕ_discrete, dec_lt}
use native.Mathlib.Numerals.{add-one}
use native.Mathlib.Omega.{arith}
use lib.Dec.{eqb}
use borrow.Author.Tests.{eq-eqb, ne_eqb, eqb-true, eqb-false, not-true, not-false}
use Rattle.std.specs.Prelude.{Option, Some, None, unwrap_or}
use Rattle.theory.specs.First.{first_passing}
use Rattle.theory.specs.Sum.{sum, update}
use Rattle.theory.proofs.First.{first_is, none_passes}

-- a loop's first and next turn
pub sum_none : (f : ℕ → ℕ) → sum 0 f ≡ 0
unfolding sum
sum_none f = refl

pub sum_more : (n : ℕ) (f : ℕ → ℕ) → sum (n + 1) f ≡ sum n f + f n
unfolding sum
sum_more n f = rw add-one

-- congruence
pub sum_cong : (n : ℕ) (f g : ℕ → ℕ) → ((i : ℕ) → i < n → f i ≡ g i) → sum n f ≡ sum n g
unfolding sum
sum_cong zero f g h = refl
sum_cong (suc n) f g h = omega (arith, sum_cong n f g (λ i l. h i (omega arith)), h n (omega arith))

pub sum_mono : (n : ℕ) (f g : ℕ → ℕ) → ((i : ℕ) → i < n → f i ≤ g i) → sum n f ≤ sum n g
unfolding sum
sum_mono zero f g h = omega arith
sum_mono (suc n) f g h = omega (arith, sum_mono n f g (λ i l. h i (omega arith)), h n (omega arith))

-- additivity
pub sum-add : (n : ℕ) (f g : ℕ → ℕ) → sum n (λ i. f i + g i) ≡ sum n f + sum n g
unfolding sum
sum-add zero f g = refl
sum-add (suc n) f g = omega (arith, sum-add n f g)

pub sum-scale : (n c : ℕ) (f : ℕ → ℕ) → sum n (λ i. c * f i) ≡ c * sum n f
unfolding sum
sum-scale zero c f = sym (mul-zero c)
sum-scale (suc n) c f = omega (arith, sum-scale n c f, mul-add c (sum n f) (f n))

pub sum-scale_right : (n c : ℕ) (f : ℕ → ℕ) → sum n (λ i. f i * c) ≡ sum n f * c
sum-scale_right n c f = sum_cong n _ _ (λ i l. mul_comm (f i) c) ∙ sum-scale n c f ∙ mul_comm c (sum n f)

pub sum-zero : (n : ℕ) → sum n (λ i. 0) ≡ 0
unfolding sum
sum-zero zero = refl
sum-zero (suc n) = omega (arith, sum-zero n)

pub sum_const : (n c : ℕ) → sum n (λ i. c) ≡ n * c
unfolding sum
sum_const zero c = sym (zero-mul c)
sum_const (suc n) c = omega (arith, sum_const n c, suc-mul n c)

-- one term is at most the sum
pub sum_term : (n k : ℕ) (f : ℕ → ℕ) → k < n → f k ≤ sum n f
unfolding sum
sum_term zero k f h = absurd (omega arith)
sum_term (suc n) k f h = ⊎_elim (λ i. omega (arith, ap f i)) (λ l. omega (arith, sum_term n k f l)) (eq-or-lt_of_le (le_of_suc-le-suc h))

-- terms of at most h
pub sum_most : (n h : ℕ) (f : ℕ → ℕ) → ((i : ℕ) → i < n → f i ≤ h) → sum n f ≤ n * h
sum_most n h f q = omega (arith, sum_mono n f (λ i. h) q, sum_const n h)

-- the front of a sum, and the front with its next term
pub sum_front : (m n : ℕ) (f : ℕ → ℕ) → m ≤ n → sum m f ≤ sum n f
unfolding sum
sum_front m zero f h = let e : m ≡ 0 = omega arith in rw e (omega arith)
sum_front m (suc n) f h =
    ⊎_elim (λ (q : m ≡ suc n). rw q (omega arith)) (λ (q : m < suc n). omega (arith, sum_front m n f (omega arith))) (eq-or-lt_of_le h)

pub sum_part : (n i : ℕ) (f : ℕ → ℕ) → i < n → sum i f + f i ≤ sum n f
sum_part n i f h = omega (arith, sum_front (i + 1) n f (omega arith), sum_more i f)

-- two terms are at most the sum
pub sum_terms : (n i k : ℕ) (f : ℕ → ℕ) → i < k → k < n → f i + f k ≤ sum n f
sum_terms n i k f p h = omega (arith, sum_part n k f h, sum_term k i f p)

-- so are two that are not the same one
pub sum_apart : (n i k : ℕ) (f : ℕ → ℕ) → i < n → k < n → (i ≡ k → ⊥) → f i + f k ≤ sum n f
sum_apart n i k f p q d =
    dite (dec_lt i k) (λ (l : i < k). sum_terms n i k f l q) (λ m. omega (arith, sum_terms n k i f (omega (arith, d)) p))

-- a sum that is 0 has 0 everywhere
pub zero_terms : (n : ℕ) (f : ℕ → ℕ) → sum n f ≡ 0 → (i : ℕ) → i < n → f i ≡ 0
zero_terms n f e i h = omega (arith, sum_term n i f h)

-- a sum that is one of its terms has 0 in the others
pub other_terms : (n k : ℕ) (f : ℕ → ℕ) → k < n → sum n f ≡ f k → (i : ℕ) → i < n → (i ≡ k → ⊥) → f i ≡ 0
other_terms n k f h e i p d = omega (arith, sum_apart n i k f p h d, e)

-- a weighted sum is at most the sum of the weights times the most that is weighed
pub sum-weighted : (n h : ℕ) (w f : ℕ → ℕ) → ((i : ℕ) → i < n → f i ≤ h) → sum n (λ i. w i * f i) ≤ sum n w * h
unfolding sum
sum-weighted zero h w f q = omega arith
sum-weighted (suc n) h w f q =
    rw add-mul (omega (arith, sum-weighted n h w f (λ i l. q i (omega arith)), mul-le-mul_left (w n) (q n (omega arith))))

-- exchange
pub sum_swap : (n m : ℕ) (f : ℕ → ℕ → ℕ) → sum n (λ i. sum m (λ j. f i j)) ≡ sum m (λ j. sum n (λ i. f i j))
unfolding sum
sum_swap zero m f = sym (sum-zero m)
sum_swap (suc n) m f = omega (arith, sum_swap n m f, sum-add m (λ j. sum n (λ i. f i j)) (λ j. f n j))

-- the front and the rest
pub sum_split : (m n : ℕ) (f : ℕ → ℕ) → sum (m + n) f ≡ sum m f + sum n (λ k. f (m + k))
unfolding sum
sum_split m zero f = rw (add-zero m) (omega arith)
sum_split m (suc n) f = rw add-suc (omega (arith, sum_split m n f))

-- the first term apart
pub sum_head : (n : ℕ) (f : ℕ → ℕ) → sum (suc n) f ≡ f 0 + sum n (λ i. f (i + 1))
unfolding sum
sum_head zero f = omega arith
sum_head (suc n) f = omega (arith, sum_head n f, ap f (sym (add-one n)))

-- one changed term
pub sum_one : (n k : ℕ) (f g : ℕ → ℕ) → k < n → ((i : ℕ) → i < n → (i ≡ k → ⊥) → f i ≡ g i) → sum n f + g k ≡ sum n g + f k
unfolding sum
sum_one zero k f g h e = absurd (omega arith)
sum_one (suc n) k f g h e =
    ⊎_elim (λ i. omega (arith, sum_cong n f g (λ j l. e j (omega arith) (omega arith)), ap f i, ap g i))
    (λ l. omega (arith, sum_one n k f g l (λ j r. e j (omega arith)), e n (omega arith) (omega arith)))
    (eq-or-lt_of_le (le_of_suc-le-suc h))

pub update_same : (x : ℕ → ℕ) (i a j : ℕ) → j ≡ i → update x i a j ≡ a
unfolding update
update_same x i a j e = rw (eq-eqb j i e)

pub update_other : (x : ℕ → ℕ) (i a j : ℕ) → (j ≡ i → ⊥) → update x i a j ≡ x j
unfolding update
update_other x i a j e = rw (ne_eqb j i e)

-- two changed terms
pub sum_two : (n k l : ℕ) (f g : ℕ → ℕ) → k < n → l < n → (k ≡ l → ⊥) → ((i : ℕ) → i < n → (i ≡ k → ⊥) → (i ≡ l → ⊥) → f i ≡ g i)
    → sum n f + g k + g l ≡ sum n g + f k + f l
sum_two n k l f g p q d e =
    let h = update g k (f k) in
    omega (
      arith,
      sum_one n k h g p (λ i r s. update_other g k (f k) i s),
      update_same g k (f k) k refl,
      update_other g k (f k) l (λ i. d (sym i)),
      sum_one n l f h q at_others,
    )
  where
    at_others : (i : ℕ) → i < n → (i ≡ l → ⊥) → f i ≡ update g k (f k) i
    at_others i r s = by (ℕ_discrete i k)
      where
        by : Dec (i ≡ k) → f i ≡ update g k (f k) i
        by (yes t) = ap f t ∙ sym (update_same g k (f k) i t)
        by (no t) = e i r t s ∙ sym (update_other g k (f k) i t)

-- a sum that has one term only: the others are 0
pub sum_pick : (n j v : ℕ) → j < n → sum n (λ i. cond (eqb j i) v 0) ≡ v
sum_pick n j v h =
    let e : cond (eqb j j) v 0 ≡ v = rw (eq-eqb j j refl) in
    omega (arith, sum_one n j (λ i. cond (eqb j i) v 0) (λ i. 0) h (λ i l d. rw (ne_eqb j i (λ s. d (sym s)))), sum-zero n, e)

-- and back: where the others are 0, the sum is that term
pub sole_term : (n k : ℕ) (f : ℕ → ℕ) → k < n → ((i : ℕ) → i < n → (i ≡ k → ⊥) → f i ≡ 0) → sum n f ≡ f k
sole_term n k f h z = omega (arith, sum_one n k f (λ i. 0) h z, sum-zero n)

-- the first term that is not 0
abbrev pub first_nonzero : ℕ → (ℕ → ℕ) → ℕ
first_nonzero n f = unwrap_or (first_passing n (λ i. not (eqb (f i) 0))) 0

-- in a sum that is 1 it is 1
pub nonzero_is_1 : (n : ℕ) (f : ℕ → ℕ) → sum n f ≡ 1 → (first_nonzero n f < n) × (f (first_nonzero n f) ≡ 1)
nonzero_is_1 n f e = go (first_passing n (λ i. not (eqb (f i) 0))) refl
  where
    go : (o : Option ℕ) → first_passing n (λ i. not (eqb (f i) 0)) ≡ o → (unwrap_or o 0 < n) × (f (unwrap_or o 0) ≡ 1)
    go (Some k) q =
        let w = first_is n (λ i. not (eqb (f i) 0)) k q in
        (w.there, omega (arith, eqb-false (f k) 0 (not-true (eqb (f k) 0) w.passes), sum_term n k f w.there, e))
    go None q =
        let z = sum_cong n f (λ i. 0) (λ i h. eqb-true (f i) 0 (not-false (eqb (f i) 0) (none_passes n (λ j. not (eqb (f j) 0)) q i h))) in
        absurd (omega (arith, e, z, sum-zero n))

-- ---- runs of equal parts

-- part k of n parts is inside them
pub part_inside : (w k n : ℕ) → k < n → w * k + w ≤ w * n
part_inside w k n h = omega (arith, mul-le-mul_left w h, mul-suc w k)

-- row a of a table is inside it
pub row_part : (rows columns a : ℕ) → a < rows → columns * a + columns ≤ rows * columns
row_part rows columns a h = omega (arith, part_inside columns a rows h, mul_comm rows columns)
