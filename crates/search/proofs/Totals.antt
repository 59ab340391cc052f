-- The partial total: what a train adds depends on the trains up to it only, each pair is counted once, at its second train, and so over all trains the partial total is the plan's total.
use mathlib.Core.Path.{◌≡◌, refl, ap, ap₂, ◌∙◌}
use mathlib.Core.Bool.{false, cond}
use mathlib.Core.List.{List}
use mathlib.Core.Logic.{⊎_elim, dite}
use Prim.Native.Nat.{ℕ, zero, suc, ◌+◌, ◌<◌, ◌≤◌}
use native.Mathlib.Nat.{eq-or-lt_of_le}
use native.Mathlib.Decide.{ℕ_discrete}
use native.Mathlib.Omega.{arith}
use lib.Dec.{eqb}
use lib.ListN.{length, set, length-set}
use borrow.Author.Tests.{ne_eqb}
use Rattle.theory.specs.Sum.{sum}
use Rattle.theory.proofs.Sum.{sum_none, sum_more, sum_cong, sum-add, sum_swap, sum_pick}
use Rattle.tables.specs.Plans.{Shape, Costs, choice_total, pair_total, total, choices_of}
use Rattle.rows.specs.Limits.{Walkable}
use Rattle.rows.proofs.Written.{written, kept}
use Rattle.search.specs.Walk.{barred, pair_added, added, partial_total, Decided, no_choices}
use Rattle.search.proofs.Barred.{barred_cong}

-- the next train
pub partial_more : (s : Shape) (c : Costs) (x : ℕ → ℕ) (t : ℕ) → partial_total s c x (t + 1) ≡ partial_total s c x t + added s c x t
unfolding partial_total
partial_more s c x t = omega (arith, sum_more t (added s c x))

-- the partial total never falls
pub partial_rises : (s : Shape) (c : Costs) (x : ℕ → ℕ) (t d : ℕ) → partial_total s c x t ≤ partial_total s c x (t + d)
partial_rises s c x t zero = let e : t + 0 ≡ t = omega arith in rw e (omega arith)
partial_rises s c x t (suc d) =
    let e : t + suc d ≡ (t + d) + 1 = omega arith in
    rw e (omega (arith, partial_more s c x (t + d), partial_rises s c x t d))

module _ {s : Shape} (o : Walkable s) (c : Costs) where
  -- ---- what a train adds

  -- pairs come before their second train
  pub added_cong : (x y : ℕ → ℕ) (t : ℕ) → ((i : ℕ) → i < t + 1 → x i ≡ y i) → added s c x t ≡ added s c y t
  unfolding added
  added_cong x y t same = ap₂ ◌+◌ (ap (c.choice t) (same t (omega arith))) (sum_cong s.pairs _ _ at_pair)
    where
      at_pair : (k : ℕ) → k < s.pairs → pair_added s c x t k ≡ pair_added s c y t k
      at_pair k h =
          dite (ℕ_discrete (s.second k) t)
          (λ (e : s.second k ≡ t). ap (λ (v : ℕ). cond (eqb (s.second k) t) v 0)
          (ap₂ (c.pair k) (same (s.first k) (omega (arith, o.ascends k h))) (same (s.second k) (omega arith))))
          (λ n. rw (ne_eqb (s.second k) t n))

  pub partial_cong : (x y : ℕ → ℕ) (t : ℕ) → ((i : ℕ) → i < t → x i ≡ y i) → partial_total s c x t ≡ partial_total s c y t
  unfolding partial_total
  partial_cong x y t same = omega (arith, sum_cong t (added s c x) (added s c y) (λ i h. added_cong x y i (λ j r. same j (omega arith))))

  -- ---- trains decided

  pub decided_start : Decided s c 0 c.constant no_choices
  unfolding partial_total
  decided_start =
      record {
        whole = refl;
        below = λ i h. absurd (omega arith);
        permitted = λ i h. absurd (omega arith);
        total = omega (arith, sum_none (added s c (choices_of no_choices)));
      }

  pub decided_next : (t a partial : ℕ) (chosen : List ℕ) → t < s.trains → a < s.size t → Decided s c t partial chosen
      → barred s (choices_of (set chosen t a)) t ≡ false
      → Decided s c (t + 1) (partial + added s c (choices_of (set chosen t a)) t) (set chosen t a)
  decided_next t a partial chosen h q d f =
      let y = choices_of (set chosen t a) in
      let l : t < length chosen = omega (arith, d.whole, o.room) in
      record {
        whole = simp length-set d.whole;
        below = written (λ i v. v < s.size i) chosen t a l d.below q;
        permitted = λ i r.
            ⊎_elim
            (λ (e : i ≡ t). rw e f)
            (λ (e : i < t). barred_cong o y (choices_of chosen) i (λ j u. kept chosen t a j (omega arith)) ∙ d.permitted i e)
            (eq-or-lt_of_le (omega arith));
        total = omega (arith, d.total, partial_more s c y t, partial_cong y (choices_of chosen) t (kept chosen t a));
      }

  -- ---- all trains decided

  -- each pair is counted once
  pub partial_whole : (x : ℕ → ℕ) → partial_total s c x s.trains ≡ total s c x
  unfolding partial_total added total choice_total pair_total
  partial_whole x =
      let n = s.trains in
      omega (
        arith,
        sum-add n (λ i. c.choice i (x i)) (λ i. sum s.pairs (pair_added s c x i)),
        sum_swap n s.pairs (λ i k. pair_added s c x i k),
        sum_cong s.pairs (λ k. sum n (λ i. pair_added s c x i k)) (λ k. c.pair k (x (s.first k)) (x (s.second k)))
            (λ k h. sum_pick n (s.second k) _ (o.inside k h)),
      )
