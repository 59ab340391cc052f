-- What a certificate says where entries may be forbidden: its sums agree and it spares what is forbidden, so no rival by lifts and moves from s × H passes E / W.
use mathlib.Core.Path.{◌≡◌}
use mathlib.Core.Bool.{true}
use mathlib.Core.List.{List}
use lib.IntN.{ℤ}
use Rattle.tables.specs.Block.{scale}
use Rattle.tables.specs.WellFormed.{Study}
use Rattle.tables.specs.Plans.{shape_of, loaded_costs, held_costs}
use Rattle.tables.proofs.Plans.{study_shaped}
use Rattle.certificates.specs.Certify.{Weights, balanced, spared, weighted, certificate}
use Rattle.std.specs.Prelude.{Ok}
use Rattle.certificates.specs.declared.certify.Ceiling.{Ceiling}
use Rattle.certificates.specs.Rival.{scaled}
use Rattle.weights.specs.Rival.{Amounts, Leaves, LiftsAtMost}
use Rattle.certificates.proofs.Ceilings.{certify_ceiling}
use Rattle.certificates.proofs.Agrees.{balanced_agrees}
use Rattle.weights.proofs.Spared.{spared_spares}
use Rattle.weights.proofs.Weighs.{Weighs, weighs_ceiling}

pub certified-ceiling : {b : List ℤ} → Study b → Weighs (shape_of b) (scale b) (loaded_costs b) (held_costs b)
    → (w : Weights) → balanced (shape_of b) w ≡ true → spared (shape_of b) w ≡ true
    → (up down : Amounts) → Leaves (shape_of b) (scaled (scale b) (loaded_costs b)) up down
    → LiftsAtMost (shape_of b) w.full_weight (weighted (shape_of b) w (held_costs b)) up down
certified-ceiling {b} s x w e f up down l = weighs_ceiling (study_shaped s) x w (balanced_agrees (shape_of b) w e) (spared_spares (shape_of b) w f) up down l

-- so it is of a certificate as it is answered
pub certify_moved : {b : List ℤ} → Study b → Weighs (shape_of b) (scale b) (loaded_costs b) (held_costs b)
    → (w : Weights) {c : Ceiling} → certificate b w ≡ Ok c
    → (up down : Amounts) → Leaves (shape_of b) (scaled (scale b) (loaded_costs b)) up down
    → LiftsAtMost (shape_of b) w.full_weight c.weighted up down
certify_moved {b} s x w e up down l =
    let k = certify_ceiling b w e in
    rw k.shown (certified-ceiling s x w k.right k.spares up down l)
