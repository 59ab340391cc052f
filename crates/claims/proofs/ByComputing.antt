-- What is found of a study by computing, where all its numbers are known: that nothing is forbidden, that choices are a plan, that lifts and moves leave no permitted entry below 0, and what holds of
-- every choice of three trains.
use mathlib.Core.Path.{◌≡◌, refl}
use mathlib.Core.Bool.{Bool, true, false, not, ◌&&◌, ◌||◌}
use Prim.Native.Nat.{ℕ, ◌*◌, ◌<◌}
use lib.Dec.{leb, ltb, eqb}
use borrow.Author.Tests.{leb-true, ltb-true, le-leb, eqb-true}
use Rattle.theory.specs.Range.{all}
use Rattle.theory.proofs.Range.{not_both, both_true, all_true}
use Rattle.tables.specs.Plans.{Shape, Costs, IsPlan, Open}
use Rattle.certificates.specs.Rival.{Fraction, as_fraction, plus, sum_of, Same, AtMost}
use Rattle.weights.specs.Rival.{Amounts, given_of, Leaves}

-- a test of every choice of every train, and of every entry of every pair
unfoldable pub each_choice : Shape → (ℕ → ℕ → Bool) → Bool
unfolding all
each_choice s p = all s.trains (λ i. all (s.size i) (p i))

unfoldable pub each_entry : Shape → (ℕ → ℕ → ℕ → Bool) → Bool
unfolding all
each_entry s p = all s.pairs (λ k. all (s.size (s.first k)) (λ a. all (s.size (s.second k)) (p k a)))

module _ (s : Shape) where
  pub each_choice_true : (p : ℕ → ℕ → Bool) → each_choice s p ≡ true → (i a : ℕ) → i < s.trains → a < s.size i → p i a ≡ true
  unfolding each_choice
  each_choice_true p e i a h q = all_true (p i) (s.size i) (all_true (λ j. all (s.size j) (p j)) s.trains e i h) a q

  pub each_entry_true : (p : ℕ → ℕ → ℕ → Bool) → each_entry s p ≡ true → (k a c : ℕ) → k < s.pairs → a < s.size (s.first k) → c < s.size (s.second k) → p k a c ≡ true
  unfolding each_entry
  each_entry_true p e k a c h q r =
      all_true (p k a) (s.size (s.second k))
      (all_true (λ d. all (s.size (s.second k)) (p k d)) (s.size (s.first k))
      (all_true (λ j. all (s.size (s.first j)) (λ d. all (s.size (s.second j)) (p j d))) s.pairs e k h) a q) c r

  -- nothing is forbidden
  pub open_lem : each_choice s s.choice_open ≡ true → each_entry s s.entry_open ≡ true → Open s
  open_lem e f = record { choices = each_choice_true s.choice_open e; entries = each_entry_true s.entry_open f }

-- train i has choice x i, and it is permitted
abbrev pub choice_taken : Shape → (ℕ → ℕ) → ℕ → Bool
choice_taken s x i = ltb (x i) (s.size i) && s.choice_open i (x i)

abbrev pub entry_taken : Shape → (ℕ → ℕ) → ℕ → Bool
entry_taken s x k = s.entry_open k (x (s.first k)) (x (s.second k))

unfoldable pub plan_test : Shape → (ℕ → ℕ) → Bool
unfolding all
plan_test s x = all s.trains (choice_taken s x) && all s.pairs (entry_taken s x)

pub plan_lem : (s : Shape) (x : ℕ → ℕ) → plan_test s x ≡ true → IsPlan s x
unfolding plan_test
plan_lem s x e =
    let both = both_true (all s.trains (choice_taken s x)) (all s.pairs (entry_taken s x)) e in
    record {
      below = λ i h. ltb-true _ _ (both_true _ _ (all_true (choice_taken s x) s.trains both.0 i h)).0;
      choices = λ i h. (both_true _ _ (all_true (choice_taken s x) s.trains both.0 i h)).1;
      entries = all_true (entry_taken s x) s.pairs both.1;
    }

-- ---- fractions

abbrev pub at_most : Fraction → Fraction → Bool
at_most f g = leb (f.num * g.den) (g.num * f.den)

at_most_lem : (f g : Fraction) → at_most f g ≡ true → AtMost f g
unfolding AtMost
at_most_lem f g e = leb-true _ _ e

abbrev pub same_as : Fraction → Fraction → Bool
same_as f g = eqb (f.num * g.den) (g.num * f.den)

pub same_lem : (f g : Fraction) → same_as f g ≡ true → Same f g
unfolding Same
same_lem f g e = eqb-true _ _ e

-- what is not at most another is above it
pub above_lem : (f g : Fraction) → at_most f g ≡ false → AtMost f g → ⊥
unfolding AtMost
above_lem f g e h = not_both (le-leb _ _ h) e

-- ---- lifts and moves

-- what is permitted ends at 0 or above
abbrev pub choice_left : Shape → Costs → Amounts → Amounts → ℕ → ℕ → Bool
choice_left s t up down i a =
    not (s.choice_open i a) || at_most (plus (up.lift i) (given_of s down i a)) (plus (plus (as_fraction (t.choice i a)) (down.lift i)) (given_of s up i a))

abbrev pub entry_left : Shape → Costs → Amounts → Amounts → ℕ → ℕ → ℕ → Bool
entry_left s t up down k a c =
    not (s.entry_open k a c) || at_most (plus (up.row k a) (up.column k c)) (plus (plus (as_fraction (t.pair k a c)) (down.row k a)) (down.column k c))

unfoldable pub leaves_test : Shape → Costs → Amounts → Amounts → Bool
unfolding each_choice each_entry given_of sum_of plus as_fraction
leaves_test s t up down = each_choice s (choice_left s t up down) && each_entry s (entry_left s t up down)

-- what is tested where it is permitted
of_permitted : (o t : Bool) → not o || t ≡ true → o ≡ true → t ≡ true
of_permitted true t e o = e
of_permitted false t e o = absurd (not_both o refl)

pub leaves_lem : (s : Shape) (t : Costs) (up down : Amounts) → leaves_test s t up down ≡ true → Leaves s t up down
unfolding leaves_test
leaves_lem s t up down e =
    let both = both_true (each_choice s (choice_left s t up down)) (each_entry s (entry_left s t up down)) e in
    record {
      choices = λ i a h q o. at_most_lem _ _ (of_permitted (s.choice_open i a) _ (each_choice_true s (choice_left s t up down) both.0 i a h q) o);
      entries = λ k a c h p q o. at_most_lem _ _ (of_permitted (s.entry_open k a c) _ (each_entry_true s (entry_left s t up down) both.1 k a c h p q) o);
    }

-- ---- three trains

-- a test of l, m and n choices
unfoldable pub each_three : ℕ → ℕ → ℕ → (ℕ → ℕ → ℕ → Bool) → Bool
unfolding all
each_three l m n p = all l (λ a. all m (λ b. all n (p a b)))

pub three_lem : (l m n : ℕ) (p : ℕ → ℕ → ℕ → Bool) → each_three l m n p ≡ true → (a b c : ℕ) → a < l → b < m → c < n → p a b c ≡ true
unfolding each_three
three_lem l m n p e a b c h q r = all_true (p a b) n (all_true (λ d. all n (p a d)) m (all_true (λ f. all m (λ d. all n (p f d))) l e a h) b q) c r
