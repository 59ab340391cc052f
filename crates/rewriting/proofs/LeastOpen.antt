-- The least over what counts: it is at most each of them and is one of them; where none counts it is 0; where all count it is the least of all.
use mathlib.Core.Path.{◌≡◌, refl, ap, ap₂, ◌∙◌}
use mathlib.Core.Bool.{Bool, true, false}
use mathlib.Core.Logic.{⊎_elim, dite}
use Prim.Native.Nat.{ℕ, zero, suc, ◌<◌, ◌≤◌, min}
use native.Mathlib.Decide.{dec_lt}
use native.Mathlib.Omega.{arith}
use Rattle.theory.specs.Fold.{least}
use Rattle.theory.proofs.Range.{below_suc, not_both}
use Rattle.units.specs.declared.Parts.{Parts}
use Rattle.std.specs.Prelude.{Option, Some, None}
use Rattle.rewriting.specs.Leasts.{met_one, found_of, figure_of, least_open}

-- ---- at most each that counts

-- one is found, and it is at most v
abbrev AtMost : Option Parts → ℕ → Type 0
AtMost (Some p) v = p.0 ≤ v
AtMost None v = ⊥

-- the one just met, and those before
met_new : (v : ℕ) (so : Option Parts) → AtMost (met_one true v so) v
met_new v (Some p) = omega arith
met_new v None = omega arith

met_old : (t : Bool) (v u : ℕ) (so : Option Parts) → AtMost so u → AtMost (met_one t v so) u
met_old true v u (Some p) x = omega (arith, x)
met_old true v u None x = absurd x
met_old false v u so x = x

found_le : (n k : ℕ) (o : ℕ → Bool) (f : ℕ → ℕ) → k < n → o k ≡ true → AtMost (found_of n o f) (f k)
unfolding found_of
found_le zero k o f h e = absurd (omega arith)
found_le (suc n) k o f h e =
    ⊎_elim
    (λ (q : k ≡ n). rw (q, rw q at e) (met_new (f n) (found_of n o f)))
    (λ (q : k < n). met_old (o n) (f n) (f k) (found_of n o f) (found_le n k o f q e))
    (below_suc k n h)

figure_le : (so : Option Parts) (v : ℕ) → AtMost so v → figure_of so ≤ v
figure_le (Some p) v x = x
figure_le None v x = absurd x

pub least_open_le : (n k : ℕ) (o : ℕ → Bool) (f : ℕ → ℕ) → k < n → o k ≡ true → least_open n o f ≤ f k
least_open_le n k o f h e = figure_le (found_of n o f) (f k) (found_le n k o f h e)

-- ---- one of them

pub record OneOf (n : ℕ) (o : ℕ → Bool) (f : ℕ → ℕ) (v : ℕ) : Type 0 where
  pub which : ℕ
  pub below : which < n
  pub taken : o which ≡ true
  pub is : v ≡ f which

-- so is what is found, if anything is
abbrev FoundOf : ℕ → (ℕ → Bool) → (ℕ → ℕ) → Option Parts → Type 0
FoundOf n o f (Some p) = OneOf n o f p.0
FoundOf n o f None = Unit {0}

one_step : (n : ℕ) (o : ℕ → Bool) (f : ℕ → ℕ) (so : Option Parts) (t : Bool) → o n ≡ t → FoundOf n o f so → FoundOf (suc n) o f (met_one t (f n) so)
one_step n o f (Some p) true e x =
    dite (dec_lt (f n) p.0)
    (λ (l : f n < p.0). record { which = n; below = omega arith; taken = e; is = omega arith })
    (λ m. record { which = x.which; below = omega (arith, x.below); taken = x.taken; is = omega (arith, x.is) })
one_step n o f None true e x = record { which = n; below = omega arith; taken = e; is = refl }
one_step n o f (Some p) false e x = record { which = x.which; below = omega (arith, x.below); taken = x.taken; is = x.is }
one_step n o f None false e x = tt

found_is : (n : ℕ) (o : ℕ → Bool) (f : ℕ → ℕ) → FoundOf n o f (found_of n o f)
unfolding found_of
found_is zero o f = tt
found_is (suc n) o f = one_step n o f (found_of n o f) (o n) refl (found_is n o f)

-- where one counts
pub least_open_is : (n k : ℕ) (o : ℕ → Bool) (f : ℕ → ℕ) → k < n → o k ≡ true → OneOf n o f (least_open n o f)
least_open_is n k o f h e = go (found_of n o f) (found_le n k o f h e) (found_is n o f)
  where
    go : (so : Option Parts) → AtMost so (f k) → FoundOf n o f so → OneOf n o f (figure_of so)
    go (Some p) x y = y
    go None x y = absurd x

-- ---- none

-- no further than what counts
pub least_open_most : (n : ℕ) (o : ℕ → Bool) (f : ℕ → ℕ) (high : ℕ) → ((k : ℕ) → k < n → o k ≡ true → f k ≤ high) → least_open n o f ≤ high
least_open_most n o f high h = go (found_of n o f) (found_is n o f)
  where
    go : (so : Option Parts) → FoundOf n o f so → figure_of so ≤ high
    go (Some p) x = omega (arith, x.is, h x.which x.below x.taken)
    go None x = omega arith

-- 'where there are none, nothing moves'
pub least_open_none : (n : ℕ) (o : ℕ → Bool) (f : ℕ → ℕ) → ((k : ℕ) → k < n → o k ≡ false) → least_open n o f ≡ 0
least_open_none n o f h = let e = least_open_most n o f 0 (λ k l q. absurd (not_both q (h k l))) in omega arith

-- ---- where it is asked, and where all count

met_cong : (t : Bool) (v w : ℕ) (so : Option Parts) → (t ≡ true → v ≡ w) → met_one t v so ≡ met_one t w so
met_cong true v w so e = ap (λ (m : ℕ). met_one true m so) (e refl)
met_cong false v w so e = refl

found_cong : (n : ℕ) (o u : ℕ → Bool) (f g : ℕ → ℕ) → ((i : ℕ) → i < n → o i ≡ u i) → ((i : ℕ) → i < n → u i ≡ true → f i ≡ g i) → found_of n o f ≡ found_of n u g
unfolding found_of
found_cong zero o u f g h e = refl
found_cong (suc n) o u f g h e =
    ap₂ (λ (t : Bool) (so : Option Parts). met_one t (f n) so) (h n (omega arith)) (found_cong n o u f g (λ i q. h i (omega arith)) (λ i q. e i (omega arith)))
    ∙ met_cong (u n) (f n) (g n) (found_of n u g) (e n (omega arith))

-- the tests and the figures need only agree where they are asked
pub least_open_cong : (n : ℕ) (o u : ℕ → Bool) (f g : ℕ → ℕ) → ((i : ℕ) → i < n → o i ≡ u i) → ((i : ℕ) → i < n → u i ≡ true → f i ≡ g i) → least_open n o f ≡ least_open n u g
least_open_cong n o u f g h e = ap (λ (so : Option Parts). figure_of so) (found_cong n o u f g h e)

met_both : (v u : ℕ) (so : Option Parts) → AtMost so u → figure_of (met_one true v so) ≡ min (figure_of so) v
met_both v u (Some p) x = refl
met_both v u None x = absurd x

-- with nothing forbidden it reads as before
pub least_open_all : (n : ℕ) (o : ℕ → Bool) (f : ℕ → ℕ) → ((k : ℕ) → k < suc n → o k ≡ true) → least_open (suc n) o f ≡ least n f
unfolding found_of least
least_open_all zero o f h = ap (λ (t : Bool). figure_of (met_one t (f 0) (found_of 0 o f))) (h 0 (omega arith))
least_open_all (suc n) o f h =
    ap (λ (t : Bool). figure_of (met_one t (f (suc n)) (found_of (suc n) o f))) (h (suc n) (omega arith))
    ∙ met_both (f (suc n)) (f n) (found_of (suc n) o f) (found_le (suc n) n o f (omega arith) (h n (omega arith)))
    ∙ ap (λ (v : ℕ). min v (f (suc n))) (least_open_all n o f (λ k q. h k (omega arith)))
