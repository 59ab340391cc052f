-- Laws of tests over a range.
use mathlib.Core.Path.{◌≡◌, refl, sym, ap, ap₂, ◌∙◌}
use mathlib.Core.Bool.{Bool, true, false, not, ◌&&◌, and-true, and-false, and_assoc}
use mathlib.Core.List.{List, [], ◌∷◌}
use mathlib.Core.Logic.{◌⊎◌, ⊎_elim}
use Prim.Native.Nat.{ℕ, zero, suc, ◌+◌, ◌*◌, ◌<◌}
use native.Mathlib.Nat.{add-zero, zero-add, add-suc, mul-zero, mul-suc, eq-or-lt_of_le}
use native.Mathlib.Numerals.{add-one}
use native.Mathlib.Omega.{arith}
use borrow.Author.Tests.{not-true, not-false}
use lib.ListN.{length, get_or}
use Rattle.std.specs.List.{list_all}
use Rattle.theory.specs.Range.{all, pass}

pub both_true : (a b : Bool) → a && b ≡ true → (a ≡ true) × (b ≡ true)
both_true true b e = (refl, e)
both_true false b e = let z : ◌≡◌ {A = ℕ} 0 1 = cc in absurd (omega arith)

pub not_both : {t : Bool} → t ≡ true → t ≡ false → ⊥
not_both e f = let z : ◌≡◌ {A = ℕ} 0 1 = cc in omega arith

-- what a call's answer r says of the test t that it stands for, where the code asks `!r`
pub refused : {r t : Bool} → r ≡ t → not r ≡ true → t ≡ false
refused e f = sym e ∙ not-true _ f

pub passed : {r t : Bool} → r ≡ t → not r ≡ false → t ≡ true
passed e f = sym e ∙ not-false _ f

-- Bools that imply each other are equal
pub bool_ext : (a b : Bool) → (a ≡ true → b ≡ true) → (b ≡ true → a ≡ true) → a ≡ b
bool_ext true b f g = sym (f refl)
bool_ext false true f g = g refl
bool_ext false false f g = refl

pub below_suc : (k n : ℕ) → k < suc n → (k ≡ n) ⊎ (k < n)
below_suc k n h = eq-or-lt_of_le (omega arith)

module _ (p : ℕ → Bool) where
  pub all-zero : all 0 p ≡ true
  unfolding all
  all-zero = refl

  -- a loop's next turn
  pub all_next : (n : ℕ) → all (n + 1) p ≡ all n p && p n
  unfolding all
  all_next n = rw add-one

  pub all_more : (n : ℕ) → all n p ≡ true → p n ≡ true → all (n + 1) p ≡ true
  unfolding all
  all_more n e f = rw (add-one, e, f)

  pub all_true : (n : ℕ) → all n p ≡ true → (k : ℕ) → k < n → p k ≡ true
  unfolding all
  all_true zero e k h = absurd (omega arith)
  all_true (suc n) e k h =
      ⊎_elim
      (λ (q : k ≡ n). rw q (both_true (all n p) (p n) e).1)
      (λ (q : k < n). all_true n (both_true (all n p) (p n) e).0 k q)
      (below_suc k n h)

  pub all_false : (n k : ℕ) → k < n → p k ≡ false → all n p ≡ false
  unfolding all
  all_false zero k h e = absurd (omega arith)
  all_false (suc n) k h e =
      ⊎_elim (λ (q : k ≡ n). rw (← q, e) (and-false (all k p))) (λ (q : k < n). rw (all_false n k q e)) (below_suc k n h)

  pub all_intro : (n : ℕ) → ((k : ℕ) → k < n → p k ≡ true) → all n p ≡ true
  unfolding all
  all_intro zero h = refl
  all_intro (suc n) h = rw (all_intro n (λ k q. h k (omega arith)), h n (omega arith))

  pub all_split : (m n : ℕ) → all (m + n) p ≡ all m p && all n (λ k. p (m + k))
  unfolding all
  all_split m zero = rw add-zero (sym (and-true (all m p)))
  all_split m (suc n) = rw (add-suc, all_split m n) (and_assoc (all m p) (all n (λ k. p (m + k))) (p (m + n)))

  -- n rows of w places each
  pub all-rows : (w n : ℕ) → all (w * n) p ≡ all n (λ i. all w (λ a. p (w * i + a)))
  unfolding all
  all-rows w zero = rw mul-zero
  all-rows w (suc n) = rw (mul-suc, all_split (w * n) w, all-rows w n)

pub all_cong : (n : ℕ) (p q : ℕ → Bool) → ((k : ℕ) → k < n → p k ≡ q k) → all n p ≡ all n q
unfolding all
all_cong zero p q h = refl
all_cong (suc n) p q h = ap₂ ◌&&◌ (all_cong n p q (λ k l. h k (omega arith))) (h n (omega arith))

-- the first place apart
pub all_head : (p : ℕ → Bool) (n : ℕ) → all (suc n) p ≡ p 0 && all n (λ k. p (k + 1))
unfolding all
all_head p zero = sym (and-true (p 0))
all_head p (suc n) =
    ap (λ (b : Bool). b && p (suc n)) (all_head p n) ∙ and_assoc (p 0) (all n (λ j. p (j + 1))) (p (suc n))
    ∙ ap (λ (k : ℕ). p 0 && (all n (λ j. p (j + 1)) && p k)) (sym (add-one n))

pass_from : {A : Type 0} (f : ℕ → A → Bool) (d : A) (i : ℕ) (l : List A) → pass f i l ≡ all (length l) (λ k. f (i + k) (get_or l k d))
unfolding pass all
pass_from f d i [] = refl
pass_from f d i (x ∷ l) =
    ap₂ ◌&&◌ (ap (λ (k : ℕ). f k x) (sym (add-zero i)))
    (pass_from f d (i + 1) l ∙ all_cong (length l) _ _ (λ k h. ap₂ f (omega arith) (ap (λ (j : ℕ). get_or (x ∷ l) j d) (sym (add-one k)))))
    ∙ sym (all_head (λ k. f (i + k) (get_or (x ∷ l) k d)) (length l))

-- one pass over a list is a test at each of its places
pub pass_all : {A : Type 0} (f : ℕ → A → Bool) (d : A) (l : List A) → pass f 0 l ≡ all (length l) (λ k. f k (get_or l k d))
pass_all f d l = pass_from f d 0 l ∙ all_cong (length l) _ _ (λ k h. ap (λ (j : ℕ). f j (get_or l k d)) (zero-add k))

-- so is a test of each entry of a list
pub list_all-all : {A : Type 0} (p : A → Bool) (d : A) (l : List A) → list_all p l ≡ all (length l) (λ k. p (get_or l k d))
unfolding all
list_all-all p d [] = refl
list_all-all p d (x ∷ l) =
    ap (λ (t : Bool). p x && t) (list_all-all p d l ∙ all_cong (length l) _ _ (λ k h. ap (λ (j : ℕ). p (get_or (x ∷ l) j d)) (sym (add-one k))))
    ∙ sym (all_head (λ k. p (get_or (x ∷ l) k d)) (length l))
