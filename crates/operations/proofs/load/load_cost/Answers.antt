-- The cost of a forbidden entry is −1 twice; any other is stored in points and in parts.
use mathlib.Core.Path.{◌≡◌, ap, ◌∙◌}
use mathlib.Core.Bool.{true}
use mathlib.Core.Logic.{◌≢◌}
use lib.IntN.{pos}
use lib.ListN.{length-set}
use Rattle.tables.specs.Numbers.{forbidden_cost, is_cost}
use Prim.Native.Nat.{ℕ, ◌*◌, ◌≤◌}
use native.Mathlib.Nat.{mul-le-mul}
use native.Mathlib.Omega.{arith}
use Rattle.units.specs.declared.Parts.{Parts}
use Rattle.tables.specs.Block.{max_cost}
use Rattle.tables.proofs.Prices.{permitted, cost_most}
use Rattle.operations.proofs.LoadTurns.{cost_by, closed_by}
use Rattle.operations.proofs.load.load_cost.Goals as goal

-- the points of a permitted entry are within their limit
small : {p cost : ℕ} → (p ≡ cost) × (cost ≢ forbidden_cost) → is_cost cost ≡ true → p ≤ max_cost
small {cost = cost} e t = omega (arith, e.0, cost_most cost t (permitted cost e.1))

pub put-requires : goal.put-requires
put-requires c = omega (arith, small c.in-Some.ensures.some c.requires.1)

pub parts-requires : goal.parts-requires
parts-requires c = omega (arith, small c.in-Some.ensures.some c.requires.1)

pub put-requires-in-Some : goal.put-requires-in-Some
put-requires-in-Some c =
    let e = ap (λ (q : Parts). q.0) c.parts.ensures in
    omega (arith, length-set c.args.b.now c.args.p (pos c.into.result), mul-le-mul c.requires.0.high (small c.in-Some.ensures.some c.requires.1))

pub returns-in-Some : goal.returns-in-Some
returns-in-Some c =
    let a = c.args in
    let f = c.in-Some.ensures.some in
    cost_by a.scale a.cost a.p a.q a.b.now f.1 (rw (c.into.ensures, f.0) at c.put.ensures)
    (c.into-in-Some.ensures ∙ ap (λ (q : Parts). q.0) c.parts.ensures ∙ ap (λ (n : ℕ). a.scale * n) f.0) c.put-in-Some.ensures

pub returns-in-None : goal.returns-in-None
returns-in-None c = let a = c.args in closed_by a.scale a.cost a.p a.q a.b.now c.in-None.ensures.none c.close.ensures c.close-in-None.ensures
