-- The first a costs are added, and each turn adds one.
use mathlib.Core.Path.{sym, ap, ◌∙◌}
use mathlib.Core.List.{List, ◌++◌, append-nil}
use Prim.Native.Nat.{ℕ, ◌+◌}
use native.Mathlib.Omega.{arith}
use borrow.Author.Rules.{rules}
use lib.ListN.{length, length-append}
use Rattle.theory.specs.Lists.{list_of}
use Rattle.theory.proofs.Lists.{list_length}
use Rattle.tables.specs.Block.{at}
use Rattle.operations.specs.Saved.{saved_cost}
use Rattle.operations.proofs.Grown.{list_begun, list_grown}
use Rattle.numbers.proofs.read_costs.Goals as goal

pub loop-a-init : goal.loop-a-init
loop-a-init g c =
    let old = c.args.costs.now.items in
    sym (ap (λ (l : List ℕ). old ++ l) (list_begun (λ a. saved_cost (at c.args.b.now (c.args.from + a)))) ∙ append-nil old)

pub push-requires : goal.push-requires
push-requires g c =
    let f : ℕ → ℕ = λ a. saved_cost (at c.args.b.now (c.args.from + a)) in
    let e = ap (λ (l : List ℕ). length l) c.loop-a.invariant ∙ length-append c.args.costs.now.items (list_of c.loop-a.a f) in
    let h = list_length f c.loop-a.a in
    (search rules, omega arith)

pub loop-a-preserved : goal.loop-a-preserved
loop-a-preserved g c =
    let b = c.args.b.now in
    let from = c.args.from in
    list_grown (λ a. saved_cost (at b (from + a))) c.args.costs.now.items c.loop-a.a c.loop-a.invariant c.saved_cost.ensures c.push.ensures.items
