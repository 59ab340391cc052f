-- Choices that a shape has, none of which is forbidden, are a plan of it, and every plan is such.
use mathlib.Core.Path.{◌≡◌, refl, sym, ap, ap₂, ◌∙◌}
use mathlib.Core.Bool.{Bool, true, false, ◌&&◌}
use Prim.Native.Nat.{ℕ, ◌<◌}
use native.Mathlib.Omega.{arith}
use lib.Dec.{ltb, eqb}
use borrow.Author.Tests.{lt-ltb, ltb-true, eqb-true, eq-eqb}
use Rattle.theory.specs.Range.{all}
use Rattle.theory.proofs.Range.{both_true, all_true, all_intro, all_cong}
use Rattle.tables.specs.Plans.{Shape, AlikeShapes, IsPlan, choices_held, plan_open}
use Rattle.tables.proofs.Plans.{Shaped}

module _ (s : Shape) (n : ℕ) (x : ℕ → ℕ) where
  pub held_trains : choices_held s n x ≡ true → n ≡ s.trains
  unfolding choices_held
  held_trains h = eqb-true n s.trains (both_true (eqb n s.trains) (all n (λ i. ltb (x i) (s.size i))) h).0

  pub held_below : choices_held s n x ≡ true → (i : ℕ) → i < n → x i < s.size i
  unfolding choices_held
  held_below h i q =
      let e = both_true (eqb n s.trains) (all n (λ j. ltb (x j) (s.size j))) h in
      ltb-true (x i) (s.size i) (all_true (λ j. ltb (x j) (s.size j)) n e.1 i q)

  -- 'A plan gives each train one choice', and 'A plan with a forbidden entry is no plan'
  pub held_plan : choices_held s n x ≡ true → plan_open s x ≡ true → IsPlan s x
  unfolding plan_open
  held_plan h o =
      let e = both_true (all s.trains (λ i. s.choice_open i (x i))) (all s.pairs (λ k. s.entry_open k (x (s.first k)) (x (s.second k)))) o in
      record {
        below = λ i q. held_below h i (omega (arith, held_trains h));
        choices = all_true (λ i. s.choice_open i (x i)) s.trains e.0;
        entries = all_true (λ k. s.entry_open k (x (s.first k)) (x (s.second k))) s.pairs e.1;
      }

  -- where there is one for each train, each is asked
  pub right_count : n ≡ s.trains → choices_held s n x ≡ all s.trains (λ i. ltb (x i) (s.size i))
  unfolding choices_held
  right_count e = rw (eq-eqb n s.trains e, e)

module _ {s : Shape} {x : ℕ → ℕ} (p : IsPlan s x) where
  pub plan_held : choices_held s s.trains x ≡ true
  unfolding choices_held
  plan_held =
      ap₂ ◌&&◌ (eq-eqb s.trains s.trains refl) (all_intro (λ i. ltb (x i) (s.size i)) s.trains (λ i h. lt-ltb (x i) (s.size i) (p.below i h)))

  pub plan_is_open : plan_open s x ≡ true
  unfolding plan_open
  plan_is_open =
      ap₂ ◌&&◌ (all_intro (λ i. s.choice_open i (x i)) s.trains p.choices)
      (all_intro (λ k. s.entry_open k (x (s.first k)) (x (s.second k))) s.pairs p.entries)

-- ---- equal choices

pub held_cong : (s : Shape) (n : ℕ) (x y : ℕ → ℕ) → ((i : ℕ) → i < n → x i ≡ y i) → choices_held s n x ≡ choices_held s n y
unfolding choices_held
held_cong s n x y e = ap (λ (t : Bool). eqb n s.trains && t) (all_cong n _ _ (λ i h. ap (λ (v : ℕ). ltb v (s.size i)) (e i h)))

pub open_cong : (s : Shape) → Shaped s → (x y : ℕ → ℕ) → ((i : ℕ) → i < s.trains → x i ≡ y i) → plan_open s x ≡ plan_open s y
unfolding plan_open
open_cong s sh x y e =
    ap₂ ◌&&◌ (all_cong s.trains _ _ (λ i h. ap (s.choice_open i) (e i h)))
    (all_cong s.pairs _ _
    (λ k h. ap₂ (s.entry_open k) (e (s.first k) (omega (arith, sh.ascends k h, sh.inside k h))) (e (s.second k) (sh.inside k h))))

-- ---- shapes that agree where they are used

module _ {s u : Shape} (e : AlikeShapes s u) where
  -- they have the same choices
  pub alike_held : (n : ℕ) (x : ℕ → ℕ) → choices_held s n x ≡ choices_held u n x
  unfolding choices_held
  alike_held n x = go (eqb n s.trains) refl
    where
      go : (t : Bool) → eqb n s.trains ≡ t → eqb n s.trains && all n (λ i. ltb (x i) (s.size i)) ≡ eqb n u.trains && all n (λ i. ltb (x i) (u.size i))
      go true q =
          ap₂ ◌&&◌ (ap (eqb n) e.trains_same)
          (all_cong n _ _ (λ i h. ap (ltb (x i)) (e.sizes_same i (omega (arith, eqb-true n s.trains q)))))
      go false q = let r : eqb n u.trains ≡ false = sym (ap (eqb n) e.trains_same) ∙ q in rw (q, r)

  -- and of these the same are forbidden
  pub alike_open : Shaped s → (x : ℕ → ℕ) → ((i : ℕ) → i < s.trains → x i < s.size i) → plan_open s x ≡ plan_open u x
  unfolding plan_open
  alike_open sh x below =
      ap₂ ◌&&◌
      (all_cong s.trains _ _ (λ i h. e.choices_open_same i (x i) h (below i h)) ∙ ap (λ (n : ℕ). all n (λ i. u.choice_open i (x i))) e.trains_same)
      (all_cong s.pairs _ _ entry ∙ ap (λ (m : ℕ). all m (λ k. u.entry_open k (x (u.first k)) (x (u.second k)))) e.pairs_same)
    where
      entry : (k : ℕ) → k < s.pairs → s.entry_open k (x (s.first k)) (x (s.second k)) ≡ u.entry_open k (x (u.first k)) (x (u.second k))
      entry k h =
          e.entries_open_same k _ _ h (below (s.first k) (omega (arith, sh.ascends k h, sh.inside k h))) (below (s.second k) (sh.inside k h))
          ∙ ap₂ (λ (i j : ℕ). u.entry_open k (x i) (x j)) (e.firsts_same k h) (e.seconds_same k h)
