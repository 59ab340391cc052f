-- What every call keeps between the held costs and the loaded ones: by all weights that agree and spare what is forbidden, the held costs weigh s times what the loaded ones do.
-- A load begins it, an addition and every rewriting keep it; totals of plans and the ceiling against every rival by lifts and moves follow from it.
use mathlib.Core.Path.{◌≡◌, sym, ap, ap₂, ◌∙◌}
use mathlib.Core.Bool.{true}
use Prim.Native.Nat.{ℕ, ◌+◌, ◌*◌, ◌≤◌, ◌<◌}
use native.Mathlib.Nat.{mul-add, le_antisymm, le_of_mul-le-mul_left}
use native.Mathlib.Omega.{arith}
use Rattle.tables.specs.Plans.{Costs, Shape, AlikeShapes, IsPlan, total}
use Rattle.tables.proofs.Plans.{Shaped}
use Rattle.certificates.specs.Certify.{Weights, over_choices, weighted}
use Rattle.certificates.specs.Rival.{scaled}
use Rattle.certificates.proofs.Agrees.{Agrees}
use Rattle.certificates.proofs.Rivals.{choices_add, choices_scale, weighted-scaled}
use Rattle.weights.specs.Weights.{Spares, plan_weights}
use Rattle.weights.specs.Moves.{Moves, Rewritten}
use Rattle.weights.specs.Rival.{Amounts, Leaves, LiftsAtMost}
use Rattle.weights.proofs.Sums.{choices_spared, pairs-spared}
use Rattle.weights.proofs.Rewritten.{rewritten_weighted}
use Rattle.weights.proofs.Plans.{plan_agrees, plan_spares, plan_weighted}
use Rattle.weights.proofs.Ceilings.{moved_ceiling}
use Rattle.weights.proofs.Alike.{alike_agrees, alike_spares, alike_weighted}

-- t weighs d times what h weighs
pub record Weighs (s : Shape) (d : ℕ) (h t : Costs) : Type 0 where
  pub weighs : (w : Weights) → Agrees s w → Spares s w → weighted s w t ≡ d * weighted s w h

-- costs that agree on open entries weigh the same
pub open_weighted : (s : Shape) (w : Weights) → Spares s w → (t u : Costs) → t.constant ≡ u.constant
    → ((i a : ℕ) → i < s.trains → a < s.size i → s.choice_open i a ≡ true → t.choice i a ≡ u.choice i a)
    → ((k a c : ℕ) → k < s.pairs → a < s.size (s.first k) → c < s.size (s.second k) → s.entry_open k a c ≡ true → t.pair k a c ≡ u.pair k a c)
    → weighted s w t ≡ weighted s w u
unfolding weighted
open_weighted s w sp t u e f g = ap₂ ◌+◌ (ap₂ ◌+◌ (ap (λ (v : ℕ). w.full_weight * v) e) (choices_spared s w sp _ _ f)) (pairs-spared s w sp _ _ g)

-- 'T becomes s × H, c0 becomes 0'
pub load_weighs : (s : Shape) (d : ℕ) (h t : Costs) → t.constant ≡ d * h.constant
    → ((i a : ℕ) → i < s.trains → a < s.size i → s.choice_open i a ≡ true → t.choice i a ≡ d * h.choice i a)
    → ((k a c : ℕ) → k < s.pairs → a < s.size (s.first k) → c < s.size (s.second k) → s.entry_open k a c ≡ true → t.pair k a c ≡ d * h.pair k a c)
    → Weighs s d h t
load_weighs s d h t e f g = record { weighs = λ w ag sp. open_weighted s w sp t (scaled d h) e f g ∙ weighted-scaled s d h w }

-- the choices' costs, m more each
abbrev pub more : (ℕ → ℕ → ℕ) → Costs → Costs
more m t = record { constant = t.constant; choice = λ i a. t.choice i a + m i a; pair = t.pair }

more_weighted : (s : Shape) (w : Weights) (m : ℕ → ℕ → ℕ) (t : Costs) → weighted s w (more m t) ≡ weighted s w t + over_choices s w m
unfolding weighted
more_weighted s w m t = omega (arith, choices_add s w t.choice m)

-- 'H at that choice grows by the points, T by s × points': m is the points at that choice, if it is open, and 0 elsewhere
pub add_weighs : (s : Shape) (d : ℕ) (m : ℕ → ℕ → ℕ) (h t : Costs) → Weighs s d h t → Weighs s d (more m h) (more (λ i a. d * m i a) t)
add_weighs s d m h t x =
    record {
      weighs = λ w ag sp. omega (
        arith,
        x.weighs w ag sp,
        ap (λ (v : ℕ). d * v) (more_weighted s w m h),
        more_weighted s w (λ i a. d * m i a) t,
        choices_scale s w d m,
        mul-add d (weighted s w h) (over_choices s w m),
      );
    }

-- as every rewriting leaves them
pub rewritten_weighs : {s : Shape} {d : ℕ} {h t u : Costs} {up down : Moves} → Shaped s → Weighs s d h t → Rewritten s t u up down → Weighs s d h u
rewritten_weighs {s} {t = t} {u} {up} {down} sh x r = record { weighs = λ w ag sp. rewritten_weighted s sh w ag sp t u up down r ∙ x.weighs w ag sp }

-- by a shape that agrees where it is used
pub alike_weighs : {s u : Shape} {d : ℕ} {h t : Costs} → AlikeShapes s u → Shaped s → Weighs s d h t → Weighs u d h t
alike_weighs {s} {u} {d} {h} {t} e sh x =
    record {
      weighs = λ w ag sp.
          sym (alike_weighted e sh w t) ∙ x.weighs w (alike_agrees e sh w ag) (alike_spares e sh w sp) ∙ ap (λ (v : ℕ). d * v) (alike_weighted e sh w h);
    }

-- ---- what follows from it

module _ {s : Shape} {d : ℕ} {h t : Costs} (sh : Shaped s) (x : Weighs s d h t) where
  -- 'every plan's total by c0 and T is s × its cost'
  pub weighs_total : (y : ℕ → ℕ) → IsPlan s y → total s t y ≡ d * total s h y
  weighs_total y p =
      sym (plan_weighted s sh y p t) ∙ x.weighs (plan_weights s y) (plan_agrees s sh y p) (plan_spares s sh y p) ∙ ap (λ (v : ℕ). d * v) (plan_weighted s sh y p h)

  -- the ceiling, from s × the loaded costs
  pub weighs_ceiling : (w : Weights) → Agrees s w → Spares s w → (up down : Amounts) → Leaves s (scaled d h) up down
      → LiftsAtMost s w.full_weight (weighted s w t) up down
  weighs_ceiling w ag sp up down l = rw (x.weighs w ag sp, ← weighted-scaled s d h w) (moved_ceiling s (scaled d h) up down sh w ag sp l)

-- two tables that weigh the same: a constant that a certificate reaches in one is at least the other's
constant_at_most : (s : Shape) (w : Weights) (t : Costs) → w.full_weight * t.constant ≤ weighted s w t
unfolding weighted
constant_at_most s w t = omega arith

pub reached_most : {s : Shape} {d : ℕ} {h t u : Costs} → Weighs s d h t → Weighs s d h u → (w : Weights) → Agrees s w → Spares s w → 0 < w.full_weight
    → weighted s w t ≡ w.full_weight * t.constant → u.constant ≤ t.constant
reached_most {s} {t = t} {u} x y w ag sp o r =
    le_of_mul-le-mul_left (omega (arith, x.weighs w ag sp, y.weighs w ag sp, constant_at_most s w u)) o

-- so constants that are both reached are equal
pub reached_same : {s : Shape} {d : ℕ} {h t u : Costs} → Weighs s d h t → Weighs s d h u
    → (w : Weights) → Agrees s w → Spares s w → 0 < w.full_weight → weighted s w t ≡ w.full_weight * t.constant
    → (v : Weights) → Agrees s v → Spares s v → 0 < v.full_weight → weighted s v u ≡ v.full_weight * u.constant
    → t.constant ≡ u.constant
reached_same x y w ag sp o r v bg bp q z = le_antisymm (reached_most y x v bg bp q z) (reached_most x y w ag sp o r)
