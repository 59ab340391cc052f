-- Each turn lists the cost of one cell more.
use mathlib.Core.Path.{◌≡◌, sym, ap, ◌∙◌}
use mathlib.Core.Logic.{dite}
use mathlib.Core.List.{List, [], ◌∷◌, ◌++◌}
use Prim.Native.Nat.{ℕ, ◌+◌, ◌<◌}
use native.Mathlib.Decide.{dec_lt}
use native.Mathlib.Omega.{arith}
use lib.ListN.{length}
use Rattle.theory.specs.Lists.{nth}
use Rattle.clauses.proofs.Lists.{snoc_length, snoc_at, snoc_end}
use Rattle.clauses.proofs.loads.list_cells.Goals as goal

-- one cost more, where Q says of an entry which cell it has
grown : (Q : ℕ → ℕ → Type 0) (cells l : List ℕ) {m : List ℕ} (n p : ℕ) → length l ≡ n → ((k : ℕ) → k < n → (q : ℕ) × Q k q × (nth l k ≡ nth cells q)) → Q n p → m ≡ l ++ (nth cells p ∷ [])
    → (length m ≡ n + 1) × ((k : ℕ) → k < n + 1 → (q : ℕ) × Q k q × (nth m k ≡ nth cells q))
grown Q cells l {m} n p e h t f = rw f (
  snoc_length l (nth cells p) ∙ ap (λ (j : ℕ). j + 1) e,
  λ k q. dite (dec_lt k n)
      (λ (r : k < n). let w = h k r in (w.0, w.1, snoc_at l (nth cells p) k (omega (arith, e)) ∙ w.2))
      (λ d. let i : n ≡ k = omega (arith, d) in (p, rw i at t, snoc_end l (nth cells p) k (sym i ∙ sym e))),
)

pub loop-o-init : goal.loop-o-init
loop-o-init g c = (ap (λ (l : List ℕ). length l) c.new-costs.ensures, λ k h. absurd (omega arith))

pub push-requires : goal.push-requires
push-requires g c = (search arith, omega (arith, c.loop-o.invariant.0, c.requires.room))

pub loop-o-preserved : goal.loop-o-preserved
loop-o-preserved g c = grown (λ k q. goal.F-post g c.args.cell k q) c.args.cells.now c.loop-o.costs.items c.loop-o.o c.cell.result c.loop-o.invariant.0 c.loop-o.invariant.1 c.cell.ensures c.push.ensures.items

pub returns-clause-whole : goal.returns-clause-whole
returns-clause-whole g c = omega (arith, c.loop-o.invariant.0)

pub returns-clause-costs : goal.returns-clause-costs
returns-clause-costs g c o h = c.loop-o.invariant.1 o (omega arith)
