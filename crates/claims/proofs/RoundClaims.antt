-- A round on a block that the ledger keeps: it keeps the ledger, and where nothing is forbidden it is done; where besides no two pairs of the ledger have the same second train its bound is the least
-- cost: the constant is the least total in T, which is s times the least cost, so that the bound meets that cost.
use mathlib.Core.Path.{◌≡◌, sym, ap, ◌∙◌}
use mathlib.Core.Bool.{Bool, true}
use mathlib.Core.List.{List}
use Prim.Native.Nat.{ℕ, ◌*◌}
use native.Mathlib.Omega.{arith}
use lib.IntN.{ℤ}
use Rattle.refusals.specs.declared.Refusal.TheVariants.{PartsOutside}
use Rattle.refusals.specs.Verdicts.{unless}
use Rattle.tables.specs.Block.{constant}
use Rattle.tables.specs.WellFormed.{holds_study}
use Rattle.tables.specs.Plans.{Open, Branches, LeastOf, shape_of, held_total}
use Rattle.bounds.specs.Bounds.{bound_of}
use Rattle.bounds.proofs.Plans.{bound_met}
use Rattle.rewriting.specs.Judged.{kept}
use Rattle.directional.specs.Directional.{directed, direct_block}
use Rattle.directional.proofs.Ends.{direct_rewrites, direct_within, direct_block_least}
use Rattle.claims.specs.Ledger.{Ledger, cost_of}
use Rattle.claims.proofs.Keeps.{Keeps, scaled-total, plan_in, plan_out, open_in, cost_is, total_is, bound_low, held-total_most}
use Rattle.claims.proofs.Kept.{judged_keeps}

module _ {g : Ledger} {b : List ℤ} (k : Keeps g b) where
  -- where nothing is forbidden, never 12
  pub round_done : Open g.shape → holds_study (kept b (directed b)) ≡ true
  round_done o = direct_within k.study (open_in k o) (held-total_most k)

  pub round_keeps : Keeps g (direct_block b)
  round_keeps = judged_keeps k (direct_rewrites k.study)

  branches_in : Branches g.shape → Branches (shape_of b)
  branches_in one =
      let e = k.same.shape_same in
      record { one = λ i j p q same. one.one i j (omega (arith, e.pairs_same)) (omega (arith, e.pairs_same)) (sym (e.seconds_same i p) ∙ same ∙ e.seconds_same j q) }

  -- 'the constant afterwards equals the least total of any plan': s times the least cost, and the bound is the least cost
  pub round_settled : Open g.shape → Branches g.shape
      → (constant (kept b (directed b)) ≡ g.scale * bound_of (kept b (directed b))) × LeastOf g.shape (cost_of g) (bound_of (kept b (directed b)))
  round_settled o one =
      let c = kept b (directed b) in
      let held = round_done o in
      let after : Keeps g c = rw held at round_keeps in
      let least : LeastOf (shape_of b) (held_total b) (constant c) =
      rw held at (direct_block_least k.study (open_in k o) (branches_in one) (ap (λ (t : Bool). unless t PartsOutside) held)) in
      let x = least.plan in
      let p = plan_out k x least.is_plan in
      let q = plan_in after x p in
      let paid = sym least.is ∙ total_is k x p in
      let met : bound_of c ≡ cost_of g x = bound_met after.study x q (paid ∙ sym (total_is after x p) ∙ scaled-total after x q) ∙ sym (cost_is after x q) in
      (paid ∙ ap (λ (v : ℕ). g.scale * v) (sym met), record { least = bound_low after; plan = x; is_plan = p; is = sym met })
