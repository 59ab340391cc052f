-- What a reason says of a block's plans: in points, where their totals in T are s times those in H, as after lines from fresh.
use mathlib.Core.Path.{◌≡◌, refl}
use mathlib.Core.List.{List}
use mathlib.Core.Logic.{⊎_elim}
use Prim.Native.Nat.{ℕ, ◌*◌, ◌<◌, ◌≤◌}
use native.Mathlib.Nat.{le_of_mul-le-mul_left}
use native.Mathlib.Omega.{arith}
use lib.IntN.{ℤ}
use Rattle.tables.specs.Block.{trains, scale, first, second}
use Rattle.tables.specs.WellFormed.{Study}
use Rattle.tables.specs.Plans.{IsPlan, shape_of, held_costs, loaded_total, held_total}
use Rattle.tables.proofs.Study.{trains_range, scale_range, first-below-trains, second-below-trains}
use Rattle.tables.proofs.Plans.{study_shaped}
use Rattle.reasons.specs.declared.Reason.{Reason}
use Rattle.reasons.specs.declared.Reason.TheVariants.{Neither, Own, Partner}
use Rattle.reasons.specs.Reasons.{reason_at, reason_number, reason_train}
use Rattle.reasons.proofs.Reasons.{reason_holds, reason_names}

module _ {b : List ℤ} (s : Study b) (x : ℕ → ℕ) (plan : IsPlan (shape_of b) x) (i : ℕ) (h : i < trains b) (limit : ℕ) (r : reason_number (reason_at b i (x i) limit) ≡ 0 → ⊥) where
  -- in parts
  pub reason_total : scale b * limit ≤ held_total b x
  reason_total = reason_holds (study_shaped s) (held_costs b) x plan i h (scale b * limit) r

  -- 'every plan with that choice costs the limit or more'
  pub reason_cost : held_total b x ≡ scale b * loaded_total b x → limit ≤ loaded_total b x
  reason_cost e = le_of_mul-le-mul_left {k = scale b} (omega (arith, reason_total, e)) (omega (arith, scale_range s))

-- the train that is shown is one of the block's, or a byte FF
pub shown_low : {b : List ℤ} → Study b → (i a limit : ℕ) → reason_train (reason_at b i a limit) < 256
shown_low {b} s i a limit = go (reason_at b i a limit) refl
  where
    go : (r : Reason) → reason_at b i a limit ≡ r → reason_train r < 256
    go Neither e = omega arith
    go Own e = omega arith
    go (Partner j) e =
        let w = reason_names (shape_of b) (held_costs b) i a (scale b * limit) j e in
        ⊎_elim
        (λ (q : (first b w.pair ≡ i) × (second b w.pair ≡ j)). omega (arith, q.1, second-below-trains s w.pair w.there, trains_range s))
        (λ (q : (second b w.pair ≡ i) × (first b w.pair ≡ j)). omega (arith, q.1, first-below-trains s w.pair w.there, trains_range s))
        w.trains
